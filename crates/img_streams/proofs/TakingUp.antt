-- A stream that waits for its hold.
use Rattle.std.proofs.Common.{◌≡◌, ℕ, ◌≤◌, Bool, false, Option, Some, IfSome, List, ◌++◌, length, map, refl, sym, ap, ◌∙◌, subst, arith}
use Rattle.aio_model.specs.declared.serving.requests.Request.{Request}
use Rattle.aio_model.specs.declared.scripts.image_scripts.Script.{Script}
use Rattle.aio_model.specs.declared.scripts.image_scripts.What.TheVariants.{Ask}
use Rattle.aio_model.specs.Serving.Asked.{asked, requests_of}
use Rattle.aio_model.specs.Serving.{end_of}
use Rattle.co_state.specs.Wants.{Wants}
use Rattle.co_state.specs.declared.cx.CoId.{CoId}
use Rattle.co_state.specs.declared.co.CoStep.TheVariants as step
use Rattle.co_mutex.specs.declared.lock.CoMutex.{CoMutex}
use Rattle.co_mutex.specs.declared.lock.Pass.{Pass}
use Rattle.img_requests.specs.declared.present.Present.{Present}
use Rattle.img_shared.specs.declared.phases.Phase.{Phase}
use Rattle.img_shared.specs.declared.phases.Phase.TheVariants.{Waiting}
use Rattle.img_shared.specs.Images.{ImageState}
use Rattle.img_shared.specs.Notes.{Note}
use Rattle.img_join.specs.Accounts.{Account, Doing}
use Rattle.img_join.proofs.Accounts.{waiting_present}
use Rattle.img_streams.specs.declared.answers.Grant.{Grant}
use Rattle.img_streams.specs.declared.answers.Grant.TheVariants.{NotYet, Granted}
use Rattle.img_streams.specs.declared.progress.At.{At}
use Rattle.img_streams.specs.declared.progress.At.TheVariants as at
use Rattle.img_streams.specs.declared.stream.Stream.{Stream}
use Rattle.img_streams.specs.Deeds.{TookUp, woken_by, at_after, itself, IsDeedAt, DoesDeed, listed, wants_wakes}
use Rattle.img_streams.specs.ImageCalls.{IsWaitingFor}
use Rattle.img_streams.specs.Lines.{StandsAt, Asks}
use Rattle.img_streams.specs.Own.{own_note, IsOwnPass, Calls}
use Rattle.img_streams.specs.Steps.{IsTakenUp}
use Rattle.img_streams.specs.Streams.{IsStreamOf, StandsSo, Resumes, MovesOn}
use Rattle.img_streams.proofs.StreamsGoOn.{named_now, stays}
use Rattle.img_streams.proofs.Making.{made_call}
use Rattle.img_streams.proofs.Serving.{stays_served}

-- the buffer that was lent is the stream's
pub taken_at : {D : Type 0} → (bytes : D → Option (List ℕ)) (s : ℕ) (request : Request) (answer : Grant) (old new : Note D) (lent before given after : List ℕ)
    → lent ≡ before → after ≡ given → IsTakenUp bytes s request old lent answer new given → IsTakenUp bytes s request old before answer new after
taken_at bytes s request answer old new lent before given after e f taken =
    subst (λ (l : List ℕ). IsTakenUp bytes s request old before answer new l) (sym f) (subst (λ (l : List ℕ). IsTakenUp bytes s request old l answer new given) e taken)

module _ {P D : Type 0} (bytes : D → Option (List ℕ)) (old : Stream P (ImageState D) (Note D)) (of : CoMutex P (ImageState D) (Note D) × Script)
    (is : IsStreamOf bytes old of) (here : old.at ≡ at.Waiting) where
  pub stands : StandsSo of.1.lines old.id old.co.co old.line old.queued (own_note bytes of.0 old.pass) at.Waiting
  stands = subst (λ (a : At). StandsSo of.1.lines old.id old.co.co old.line old.queued (own_note bytes of.0 old.pass) a) here is.stands

  pub asks_waiting : Asks of.1.lines old.id old.line
  asks_waiting = (stands.1, stands.2)

  pub stands_waiting : (note : Note D) (queued : Bool) → note ≡ own_note bytes of.0 old.pass → StandsSo of.1.lines old.id old.co.co old.line queued note at.Waiting
  stands_waiting note queued same = subst (λ (n : Note D). StandsSo of.1.lines old.id old.co.co old.line queued n at.Waiting) (sym same) stands

  module _ (request : Request) (line : StandsAt of.1.lines old.id old.line (Ask request)) where
    pub waiting_now : IsWaitingFor (own_note bytes of.0 old.pass).phase old.co.co request
    waiting_now =
        let found = waiting_present (own_note bytes of.0 old.pass).phase stands.0 in
        let was : Doing old.co.co of.1.image request old.buffer.items (Waiting found.0) (own_note bytes of.0 old.pass).told =
        subst (λ (x : Phase). Doing old.co.co of.1.image request old.buffer.items x (own_note bytes of.0 old.pass).told) found.1
        (is.account.doing request (named_now bytes old of is request line)) in
        found.1 ∙ ap (λ (p : Present). Waiting p) was.0

    within_now : end_of request ≤ (own_note bytes of.0 old.pass).size
    within_now =
        let same : Some stands.1 ≡ Some request = sym (named_now bytes old of is stands.1 stands.2) ∙ named_now bytes old of is request line in
        subst (λ (o : Option Request). IfSome o (λ r. end_of r ≤ (own_note bytes of.0 old.pass).size)) same stands.3

    -- another buffer with the same length
    module _ (other mid : Stream P (ImageState D) (Note D)) (pass : Pass P (ImageState D) (Note D)) where
      taken_stays : (answer : Grant) → IsOwnPass bytes of.0 pass old.co.co false
          → IsTakenUp bytes old.co.co request (own_note bytes of.0 old.pass) old.buffer.items answer (own_note bytes of.0 pass) mid.buffer.items
          → IsStreamOf bytes (record old { pass = pass; queued = false; at = at_after (TookUp answer); buffer = mid.buffer }) of
      taken_stays NotYet own taken =
          let noted : Account bytes (asked of.1.lines) old.id old.co.co of.1.image (requests_of old.id of.1.lines) (own_note bytes of.0 pass) (map (λ buffer. buffer.items) old.filled.items) old.buffer.items =
          subst (λ (n : Note D). Account bytes (asked of.1.lines) old.id old.co.co of.1.image (requests_of old.id of.1.lines) n (map (λ buffer. buffer.items) old.filled.items) old.buffer.items) (sym taken.0) is.account in
          stays bytes old of is (record old { pass = pass; queued = false; at = at.Waiting; buffer = mid.buffer }) own (ap (λ (n : Note D). n.entries) taken.0)
          (subst (λ (l : List ℕ). Account bytes (asked of.1.lines) old.id old.co.co of.1.image (requests_of old.id of.1.lines) (own_note bytes of.0 pass) (map (λ buffer. buffer.items) old.filled.items) l) (sym taken.1) noted)
          (stands_waiting (own_note bytes of.0 pass) false taken.0) (ap (λ (l : List ℕ). length l) taken.1)
      taken_stays (Granted woken first) own taken =
          stays_served bytes old of is request line taken.0 taken.1.entries mid pass first own
          (taken.1.account old.buffer.items within_now (asked of.1.lines) old.id of.1.image (requests_of old.id of.1.lines) (map (λ buffer. buffer.items) old.filled.items)
          (named_now bytes old of is request line) is.account)
          taken.2

      pub taken_is : (answer : Grant) → IsOwnPass bytes of.0 pass old.co.co false
          → IsTakenUp bytes old.co.co request (own_note bytes of.0 old.pass) old.buffer.items answer (own_note bytes of.0 pass) mid.buffer.items
          → MovesOn (TookUp answer) (record old { pass = pass; queued = false; buffer = mid.buffer }) other
          → IsStreamOf bytes other of
      taken_is answer own taken moves =
          subst (λ (co : Stream P (ImageState D) (Note D)). IsStreamOf bytes co of) (sym moves) (taken_stays answer own taken)

      pub taken_resumes : (answer : Grant) (named : Option CoId) (wants : Wants)
          → Calls bytes of.0 (λ found left. DoesDeed bytes old.co request old.buffer.items mid.buffer.items (TookUp answer) found left) old.co named old.pass pass
          → MovesOn (TookUp answer) (record old { pass = pass; queued = false; buffer = mid.buffer }) other
          → wants ≡ wants_wakes (listed named ++ listed (woken_by (TookUp answer)) ++ listed (itself old.co (at_after (TookUp answer)))) false
          → Resumes bytes old of wants step.Yield other
      taken_resumes answer named wants calls moves wakes =
          subst (λ (co : Stream P (ImageState D) (Note D)). Resumes bytes old of wants step.Yield co) (sym moves)
          (made_call bytes old of is request line (record old { pass = pass; queued = false; at = at_after (TookUp answer); buffer = mid.buffer }) (TookUp answer)
          (subst (λ (a : At). IsDeedAt a (TookUp answer)) (sym here) tt) named wants calls refl refl refl refl (omega arith) wakes)
