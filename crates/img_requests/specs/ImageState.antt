-- An image as its callers see it, and what entering a request does.
use Rattle.std.specs.Prelude.{◌≡◌, ℕ, ◌<◌, ◌≤◌, List, [], ◌∷◌, ◌++◌, length, Option, Some, None}
use Rattle.aio_model.specs.declared.serving.requests.Request.{Request}
use Rattle.aio_model.specs.Serving.{length_of, end_of}
use Rattle.img_requests.specs.declared.answers.Piece.{Piece}
use Rattle.img_requests.specs.declared.answers.Enter.{Enter}
use Rattle.img_requests.specs.declared.answers.Enter.TheVariants.{Begun, Queued, Refused}
use Rattle.img_requests.specs.declared.journal.Entry.{Entry}
use Rattle.img_requests.specs.declared.journal.Mark.TheVariants.{Einval}
use Rattle.img_requests.specs.declared.present.Present.{Present}
use Rattle.img_requests.specs.declared.present.Stage.{Stage}
use Rattle.img_requests.specs.declared.present.Stage.TheVariants as stage
use Rattle.img_requests.specs.Journal.{entry_next}
use Rattle.img_requests.specs.Pieces.{Pieced, piece_length, done_after, stage_after}
use Rattle.img_requests.specs.Presents.{begun_of, present_of, done_of}

pub record ImageState (D : Type 0) : Type 0 where
  pub device : D
  -- the image is the device's first bytes, so many of them
  pub size : ℕ
  -- how many requests each stream has
  pub requests : List ℕ
  pub journal : List Entry
  -- the request that was entered and hasn't left
  pub present : Option Present

-- what a stream may do at the end of a request: leave, where it was served whole or failed
abbrev pub IsEnded : Stage → Type 0
IsEnded stage.Begun = ⊥
IsEnded stage.Whole = Unit {0}
IsEnded stage.Failed = Unit {0}

abbrev pub CanLeave : ℕ → Option Present → Type 0
CanLeave stream None = ⊥
CanLeave stream (Some present) = (present.stream ≡ stream) × IsEnded present.stage

-- What `enter` answers, and what it leaves. A request that reaches past the image's end is refused, and no other.
abbrev pub Enters : {D : Type 0} → ImageState D → ℕ → Request → Enter → ImageState D → Type 0
Enters old stream request Begun new =
    (end_of request ≤ old.size) × (new ≡ record old { present = Some (begun_of stream request) })
Enters old stream request Queued new = ⊥
Enters old stream request (Refused place) new =
    (old.size < end_of request)
    × (place ≡ length old.journal)
    × (new ≡ record old { journal = old.journal ++ entry_next stream old.journal Einval ∷ [] })

-- a fact for a request that was begun
abbrev pub OnBegun : Enter → Type 0 → Type 0
OnBegun Begun P = P
OnBegun Queued P = Unit {0}
OnBegun (Refused place) P = Unit {0}

-- What `piece` does, where its answer is this one: the next piece of the present request to the device and the buffer,
-- and to the image no more than how far the request has come. `bytes` are those that a device tells.
pub record Serves {D : Type 0} (bytes : D → Option (List ℕ)) (stream : ℕ) (request : Request) (answer : Piece)
    (old new : ImageState D) (before after : List ℕ)
    : Type 0 where
  pub pieced : Pieced request (done_of old.present) (piece_length (length_of request) (done_of old.present)) answer
      (bytes old.device) (bytes new.device) before after
  pub image : new
      ≡ record old {
        device = new.device;
        present = Some (present_of stream request
            (done_after answer (done_of old.present) (piece_length (length_of request) (done_of old.present))) (stage_after answer));
      }
