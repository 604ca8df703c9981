-- A run of pieces, from the request's beginning to its reply.
use Rattle.std.proofs.Common.{◌≡◌, ℕ, ◌≤◌, ◌⊎◌, inl, inr, List, length, Option, Some, IfSome, refl, sym, ap, subst, ◌∙◌}
use Rattle.aio_model.specs.declared.serving.requests.Request.{Request}
use Rattle.aio_model.specs.Serving.{end_of}
use Rattle.img_requests.specs.declared.answers.Piece.{Piece}
use Rattle.img_requests.specs.declared.answers.Piece.TheVariants.{More, Whole, Failed}
use Rattle.img_requests.specs.declared.present.Present.{Present}
use Rattle.img_requests.specs.declared.present.Stage.TheVariants.{Begun}
use Rattle.img_requests.specs.ImageState.{ImageState, IsEnded, CanLeave, Serves}
use Rattle.img_requests.specs.Journal.{mark_of_present, reply_of}
use Rattle.img_requests.specs.Pieces.{HasRoom, stage_after}
use Rattle.img_requests.specs.Presents.{present_of, done_of}
use Rattle.img_requests.specs.Progress.{Progress, Replied, UnderWay, IsServedThrough}
use Rattle.img_requests.proofs.Joining.{Progress-begun, Progress-more, Replied-last}

module _ {D : Type 0} (bytes : D → Option (List ℕ)) (stream : ℕ) (request : Request) where
  -- right behind `enter`
  pub UnderWay-begun : (image : ImageState D) (buffer : List ℕ)
      → image.present ≡ Some (present_of stream request 0 Begun)
      → end_of request ≤ image.size
      → IfSome (bytes image.device) (λ told. end_of request ≤ length told)
      → HasRoom request buffer
      → UnderWay bytes stream request image image buffer
  UnderWay-begun image buffer begun within inside room =
      let done : done_of image.present ≡ 0 = ap done_of begun in
      record {
        begun = begun ∙ sym (ap (λ k. Some (present_of stream request k Begun)) done);
        kept = refl;
        progress = subst (Progress image.size request (bytes image.device) (bytes image.device) buffer) (sym done)
            (Progress-begun image.size request (bytes image.device) buffer within inside room);
      }

-- the parts of an image that no piece changes
kept_further : {D : Type 0} (old now new : ImageState D) (present : Option Present)
    → now ≡ record old { device = now.device; present = now.present }
    → new ≡ record now { device = new.device; present = present }
    → new ≡ record old { device = new.device; present = new.present }
kept_further {D} old now new present first second =
    second ∙ ap (with_present now) (sym (ap (λ image. image.present) second)) ∙ ap (λ image. with_present image new.present) first
  where
    with_present : ImageState D → Option Present → ImageState D
    with_present image p = record image { device = new.device; present = p }

-- a piece with more to come
pub UnderWay-more : {D : Type 0} {bytes : D → Option (List ℕ)} {stream : ℕ} {request : Request} {old now new : ImageState D} {before after : List ℕ}
    → UnderWay bytes stream request old now before
    → Serves bytes stream request More now new before after
    → UnderWay bytes stream request old new after
UnderWay-more {D} {bytes} {stream} {request} {old} {now} {new} {before} {after} under piece =
    let next = ap (λ image. image.present) piece.image in
    let done = ap done_of next in
    record {
      begun = next ∙ sym (ap (λ k. Some (present_of stream request k Begun)) done);
      kept = kept_further old now new _ under.kept piece.image;
      progress = subst (Progress old.size request (bytes old.device) (bytes new.device) after) (sym done)
          (Progress-more under.progress piece.pieced);
    }

IsEnded-last : (answer : Piece) → (answer ≡ Whole) ⊎ (answer ≡ Failed) → IsEnded (stage_after answer)
IsEnded-last More last = elim last [ inl whole ↦ cc | inr failed ↦ cc ]
IsEnded-last Whole last = tt
IsEnded-last Failed last = tt

-- the last piece
pub IsServedThrough-last : {D : Type 0} {bytes : D → Option (List ℕ)} {stream : ℕ} {request : Request} {old now new : ImageState D} {before after : List ℕ} {answer : Piece}
    → UnderWay bytes stream request old now before
    → Serves bytes stream request answer now new before after
    → (answer ≡ Whole) ⊎ (answer ≡ Failed)
    → IsServedThrough bytes stream request old new after
IsServedThrough-last {D} {bytes} {stream} {request} {old} {now} {new} {before} {after} {answer} under piece last =
    let next = ap (λ image. image.present) piece.image in
    record {
      ended = subst (CanLeave stream) (sym next) (refl, IsEnded-last answer last);
      kept = kept_further old now new _ under.kept piece.image;
      replied = subst (λ present. Replied old.size request (bytes old.device) (bytes new.device) (reply_of (mark_of_present present) after)) (sym next)
          (Replied-last stream answer under.progress piece.pieced last);
    }
