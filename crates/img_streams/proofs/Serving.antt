-- A stream whose request has its hold.
use Rattle.std.proofs.Common.{◌≡◌, ℕ, false, Option, List, ◌++◌, length, map, refl, sym, ap, ◌∙◌, subst, arith}
use Rattle.aio_model.specs.declared.serving.requests.Request.{Request}
use Rattle.aio_model.specs.declared.scripts.image_scripts.Script.{Script}
use Rattle.aio_model.specs.declared.scripts.image_scripts.What.TheVariants.{Ask}
use Rattle.aio_model.specs.Serving.{length_of}
use Rattle.aio_model.specs.Serving.Asked.{asked, request_named, requests_of}
use Rattle.co_state.specs.Wants.{Wants}
use Rattle.co_state.specs.declared.cx.CoId.{CoId}
use Rattle.co_state.specs.declared.co.CoStep.TheVariants as step
use Rattle.co_mutex.specs.declared.lock.CoMutex.{CoMutex}
use Rattle.co_mutex.specs.declared.lock.Pass.{Pass}
use Rattle.img_shared.specs.declared.phases.Phase.{Phase}
use Rattle.img_shared.specs.declared.phases.Phase.TheVariants.{Active}
use Rattle.img_shared.specs.Images.{ImageState}
use Rattle.img_shared.specs.Notes.{Note, Placement}
use Rattle.img_streams.specs.declared.progress.At.{At}
use Rattle.img_streams.specs.declared.progress.At.TheVariants as at
use Rattle.img_streams.specs.declared.stream.Stream.{Stream}
use Rattle.img_streams.specs.Deeds.{Deed, Served, woken_by, at_after, at_after_piece, itself, IsDeedAt, DoesDeed, listed, wants_wakes}
use Rattle.img_streams.specs.Lines.{StandsAt, Asks}
use Rattle.img_streams.specs.Own.{own_note, IsOwnPass, Calls}
use Rattle.img_streams.specs.Streams.{IsStreamOf, StandsSo, Resumes, MovesOn}
use Rattle.img_streams.proofs.StreamsGoOn.{named_now, stays}
use Rattle.img_requests.specs.declared.answers.Piece.{Piece}
use Rattle.img_requests.specs.declared.answers.Piece.TheVariants as piece
use Rattle.img_requests.specs.declared.present.Present.{Present}
use Rattle.img_requests.specs.declared.present.Stage.{Stage}
use Rattle.img_requests.specs.declared.present.Stage.TheVariants as stage
use Rattle.img_requests.specs.Pieces.{piece_length, done_after, stage_after}
use Rattle.img_requests.specs.Presents.{present_of}
use Rattle.img_shared.specs.Calls.{IsServing}
use Rattle.img_shared.specs.Phases.{done_in, CanLeave}
use Rattle.img_join.specs.Accounts.{Account, Doing}
use Rattle.img_streams.specs.Steps.{IsPieceServed}
use Rattle.img_streams.proofs.Making.{made_call}

-- the buffer that was lent is the stream's
pub served_at : {D : Type 0} → (bytes : D → Option (List ℕ)) (s : ℕ) (request : Request) (answer : Piece) (old new : Note D) (lent before given after : List ℕ)
    → lent ≡ before → after ≡ given → IsPieceServed bytes s request answer old lent new given → IsPieceServed bytes s request answer old before new after
served_at bytes s request answer old new lent before given after e f served =
    subst (λ (l : List ℕ). IsPieceServed bytes s request answer old before new l) (sym f) (subst (λ (l : List ℕ). IsPieceServed bytes s request answer old l new given) e served)

pub calls_at : {P D : Type 0} → (bytes : D → Option (List ℕ)) (lock : CoMutex P (ImageState D) (Note D)) (co : CoId) (request : Request) (deed : Deed) (named : Option CoId)
    (a b : Pass P (ImageState D) (Note D)) (lent before given after : List ℕ)
    → lent ≡ before → after ≡ given
    → Calls bytes lock (λ found left. DoesDeed bytes co request lent given deed found left) co named a b
    → Calls bytes lock (λ found left. DoesDeed bytes co request before after deed found left) co named a b
calls_at bytes lock co request deed named a b lent before given after e f calls =
    subst (λ (l : List ℕ). Calls bytes lock (λ found left. DoesDeed bytes co request before l deed found left) co named a b) (sym f)
    (subst (λ (l : List ℕ). Calls bytes lock (λ found left. DoesDeed bytes co request l given deed found left) co named a b) e calls)

-- it goes on after a piece, which was served from a note with the same entries
module _ {P D : Type 0} (bytes : D → Option (List ℕ)) (old : Stream P (ImageState D) (Note D)) (of : CoMutex P (ImageState D) (Note D) × Script)
    (is : IsStreamOf bytes old of) (request : Request) (line : StandsAt of.1.lines old.id old.line (Ask request))
    (from : Note D) (same : from.entries ≡ (own_note bytes of.0 old.pass).entries)
    (mid : Stream P (ImageState D) (Note D)) (pass : Pass P (ImageState D) (Note D)) where
  stands_served : (answer : Piece)
      → (own_note bytes of.0 pass).phase ≡ Active (present_of old.co.co request (done_after answer (done_in from.phase) (piece_length (length_of request) (done_in from.phase))) (stage_after answer))
      → StandsSo of.1.lines old.id old.co.co old.line false (own_note bytes of.0 pass) (at_after_piece answer)
  stands_served piece.More phase = (
    present_of old.co.co request (done_after piece.More (done_in from.phase) (piece_length (length_of request) (done_in from.phase))) (stage_after piece.More),
    phase,
    refl,
    (request, line),
  )
  stands_served piece.Whole phase = (subst CanLeave (sym phase) tt, (request, line))
  stands_served piece.Failed phase = (subst CanLeave (sym phase) tt, (request, line))

  pub stays_served : (answer : Piece) → IsOwnPass bytes of.0 pass old.co.co false
      → Account bytes (asked of.1.lines) old.id old.co.co of.1.image (requests_of old.id of.1.lines) from (map (λ buffer. buffer.items) old.filled.items) old.buffer.items
      → IsPieceServed bytes old.co.co request answer from old.buffer.items (own_note bytes of.0 pass) mid.buffer.items
      → IsStreamOf bytes (record old { pass = pass; queued = false; at = at_after_piece answer; buffer = mid.buffer }) of
  stays_served answer own account served =
      let n : length from.entries ≡ length (own_note bytes of.0 old.pass).entries = ap (λ (l : List (Placement D)). length l) same in
      let named = ap (λ (k : ℕ). request_named (asked of.1.lines) old.id k) n ∙ named_now bytes old of is request line in
      stays bytes old of is (record old { pass = pass; queued = false; at = at_after_piece answer; buffer = mid.buffer }) own (served.entries ∙ same)
      (served.account (asked of.1.lines) old.id of.1.image (requests_of old.id of.1.lines) (map (λ buffer. buffer.items) old.filled.items) named account)
      (stands_served answer served.phase) served.long

module _ {P D : Type 0} (bytes : D → Option (List ℕ)) (old : Stream P (ImageState D) (Note D)) (of : CoMutex P (ImageState D) (Note D) × Script)
    (is : IsStreamOf bytes old of) (here : old.at ≡ at.Serving) where
  pub stands : StandsSo of.1.lines old.id old.co.co old.line old.queued (own_note bytes of.0 old.pass) at.Serving
  stands = subst (λ (a : At). StandsSo of.1.lines old.id old.co.co old.line old.queued (own_note bytes of.0 old.pass) a) here is.stands

  pub asks_serving : Asks of.1.lines old.id old.line
  asks_serving = stands.3

  module _ (request : Request) (line : StandsAt of.1.lines old.id old.line (Ask request)) where
    pub serving_now : IsServing (own_note bytes of.0 old.pass).phase old.co.co request (done_in (own_note bytes of.0 old.pass).phase)
    serving_now =
        let p = stands.0 in
        let named = named_now bytes old of is request line in
        let was : Doing old.co.co of.1.image request old.buffer.items (Active p) (own_note bytes of.0 old.pass).told =
        subst (λ (x : Phase). Doing old.co.co of.1.image request old.buffer.items x (own_note bytes of.0 old.pass).told) stands.1 (is.account.doing request named) in
        let done : p.done ≡ done_in (own_note bytes of.0 old.pass).phase = sym (ap done_in stands.1) in
        stands.1 ∙ ap (λ (q : Present). Active q) was.0
        ∙ ap (λ (s : Stage). Active (present_of old.co.co request p.done s)) stands.2
        ∙ ap (λ (d : ℕ). Active (present_of old.co.co request d stage.Begun)) done

    -- another buffer with the same length
    module _ (other mid : Stream P (ImageState D) (Note D)) (pass : Pass P (ImageState D) (Note D)) where
      pub served_is : (answer : Piece) → IsOwnPass bytes of.0 pass old.co.co false
          → IsPieceServed bytes old.co.co request answer (own_note bytes of.0 old.pass) old.buffer.items (own_note bytes of.0 pass) mid.buffer.items
          → MovesOn (Served answer) (record old { pass = pass; queued = false; buffer = mid.buffer }) other
          → IsStreamOf bytes other of
      served_is answer own served moves =
          subst (λ (co : Stream P (ImageState D) (Note D)). IsStreamOf bytes co of) (sym moves)
          (stays_served bytes old of is request line (own_note bytes of.0 old.pass) refl mid pass answer own is.account served)

      pub served_resumes : (answer : Piece) (named : Option CoId) (wants : Wants)
          → Calls bytes of.0 (λ found left. DoesDeed bytes old.co request old.buffer.items mid.buffer.items (Served answer) found left) old.co named old.pass pass
          → MovesOn (Served answer) (record old { pass = pass; queued = false; buffer = mid.buffer }) other
          → wants ≡ wants_wakes (listed named ++ listed (woken_by (Served answer)) ++ listed (itself old.co (at_after (Served answer)))) false
          → Resumes bytes old of wants step.Yield other
      served_resumes answer named wants calls moves wakes =
          subst (λ (co : Stream P (ImageState D) (Note D)). Resumes bytes old of wants step.Yield co) (sym moves)
          (made_call bytes old of is request line (record old { pass = pass; queued = false; at = at_after (Served answer); buffer = mid.buffer }) (Served answer)
          (subst (λ (a : At). IsDeedAt a (Served answer)) (sym here) tt) named wants calls refl refl refl refl (omega arith) wakes)
