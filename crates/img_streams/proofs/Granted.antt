-- What taking up a hold makes of the stream's note and account. The first piece is served under the same lock.
use Rattle.std.proofs.Common.{◌≡◌, ℕ, zero, suc, ◌<◌, ◌≤◌, Option, IfSome, option_map, set, List, [], ◌∷◌, length, refl, sym, ap, ◌∙◌, subst, arith}
use Rattle.std.proofs.lemmas.List.{length-set}
use Rattle.aio_model.specs.declared.serving.requests.Request.{Request}
use Rattle.aio_model.specs.Holds.{Has}
use Rattle.aio_model.specs.Holds.WhoHolds.{hold_of}
use Rattle.aio_model.specs.Holds.Table.{wake_one}
use Rattle.co_state.specs.declared.cx.CoId.{CoId}
use Rattle.img_requests.specs.declared.answers.Piece.{Piece}
use Rattle.img_requests.specs.declared.present.Stage.TheVariants as stage
use Rattle.img_requests.specs.Presents.{present_of}
use Rattle.img_shared.specs.declared.phases.Phase.{Phase}
use Rattle.img_shared.specs.declared.phases.Phase.TheVariants.{Active}
use Rattle.img_shared.specs.Calls.{IsServing, Serves}
use Rattle.img_shared.specs.Images.{ImageState}
use Rattle.img_shared.specs.Notes.{Note, note}
use Rattle.img_shared.specs.Phases.{phase_at, done_in, IsWaiting, taken_up}
use Rattle.img_shared.proofs.Sounds.{phase_set}
use Rattle.img_join.proofs.Accounts.{account_granted}
use Rattle.img_streams.specs.declared.answers.Grant.{Grant}
use Rattle.img_streams.specs.declared.answers.Grant.TheVariants.{NotYet, Granted}
use Rattle.img_streams.specs.ImageCalls.{come_to, coroutine_of_stream, with_hold, IsWaitingFor, GetsHold, TakesUp, OnGranted}
use Rattle.img_streams.specs.Steps.{IsHeld, IsTakenUp}
use Rattle.img_streams.proofs.Accounted.{served, keeps_served, along}
use Rattle.img_streams.proofs.Owns.{Keeps}

row_waiting : (phases : List Phase) (k : ℕ) → IsWaiting (phase_at phases k) → k < length phases
row_waiting [] k waits = absurd waits
row_waiting (p ∷ phases) zero waits = omega arith
row_waiting (p ∷ phases) (suc k) waits = let more : k < length phases = row_waiting phases k waits in omega (arith, more)

module _ {D : Type 0} (bytes : D → Option (List ℕ)) (co : CoId) (g : ImageState D) (request : Request) where
  -- the request is begun, and none of it is done
  module _ (waits : IsWaitingFor (phase_at g.phases co.co) co.co request) where
    row : co.co < length g.phases
    row = row_waiting g.phases co.co (subst IsWaiting (sym waits) tt)

    begun_with : phase_at (with_hold co g).phases co.co ≡ Active (present_of co.co request 0 stage.Begun)
    begun_with = phase_set g.phases co.co (taken_up (phase_at g.phases co.co)) row ∙ ap taken_up waits

    none_done : done_in (phase_at (with_hold co g).phases co.co) ≡ 0
    none_done = ap done_in begun_with

    serving_with : IsServing (phase_at (with_hold co g).phases co.co) co.co request (done_in (phase_at (with_hold co g).phases co.co))
    serving_with = begun_with ∙ ap (λ (d : ℕ). Active (present_of co.co request d stage.Begun)) (sym none_done)

    held_so : bytes g.device ≡ bytes g.left
        → IfSome (bytes g.device) (λ told. g.size ≤ length told)
        → IsHeld bytes co.co request (note bytes g co.co) (note bytes (with_hold co g) co.co)
    held_so clean inside = record {
      phase = begun_with;
      entries = refl;
      account = λ buffer within asked id size requests buffers named account.
          account_granted bytes asked id co.co size requests (come_to co g) row buffers request named buffer account (with_hold co g)
          (subst IsWaiting (sym waits) tt) within refl clean inside;
    }

  -- the calls on the image, one after the other
  module _ (come held x : ImageState D) (waits : IsWaitingFor (phase_at g.phases co.co) co.co request)
      (comes : come ≡ come_to co g)
      (takes : held ≡ record come { phases = set come.phases co.co (taken_up (phase_at come.phases co.co)); access = (wake_one come.access).state }) where
    held_is : held ≡ with_hold co g
    held_is = takes
        ∙ ap (λ (i : ImageState D). record i { phases = set i.phases co.co (taken_up (phase_at i.phases co.co)); access = (wake_one i.access).state }) comes

    pub gets_hold : (next : Option ℕ) (woken : Option CoId) (first : Piece) (before after : List ℕ)
        → Has (hold_of come.access co.co)
        → next ≡ (wake_one come.access).woken
        → woken ≡ option_map (coroutine_of_stream held) next
        → Serves bytes co.co request (done_in (phase_at held.phases co.co)) first held x before after
        → GetsHold bytes co request woken first g x before after
    gets_hold next woken first before after holds named woken_is serves =
        let by : Serves bytes co.co request (done_in (phase_at (with_hold co g).phases co.co)) first (with_hold co g) x before after =
        subst (λ (i : ImageState D). Serves bytes co.co request (done_in (phase_at i.phases co.co)) first i x before after) held_is serves in
        let from_start : next ≡ (wake_one g.access).woken = named ∙ ap (λ (i : ImageState D). (wake_one i.access).woken) comes in
        record {
          holds = subst (λ (i : ImageState D). Has (hold_of i.access co.co)) comes holds;
          woken_is = woken_is ∙ ap (λ (i : ImageState D). option_map (coroutine_of_stream i) next) held_is
              ∙ ap (λ (i : ImageState D). option_map (coroutine_of_stream i) next) (sym by.image)
              ∙ ap (λ (o : Option ℕ). option_map (coroutine_of_stream x) o) from_start;
          serves = subst (λ (d : ℕ). Serves bytes co.co request d first (with_hold co g) x before after) (none_done waits) by;
        }

  module _ (x : ImageState D) (row : co.co < length g.phases) (before after : List ℕ) where
    row_with : co.co < length (with_hold co g).phases
    row_with = omega (arith, row, length-set g.phases co.co (taken_up (phase_at g.phases co.co)))

    taken_so : (answer : Grant) → IsWaitingFor (phase_at g.phases co.co) co.co request
        → TakesUp bytes co request before after answer g x
        → OnGranted answer (bytes g.device ≡ bytes g.left)
        → OnGranted answer (IfSome (bytes g.device) (λ told. g.size ≤ length told))
        → IsTakenUp bytes co.co request (note bytes g co.co) before answer (note bytes x co.co) after
    taken_so NotYet waits takes clean inside = (ap (λ (i : ImageState D). note bytes i co.co) takes.1, takes.2)
    taken_so (Granted woken first) waits takes clean inside = (
      note bytes (with_hold co g) co.co,
      held_so waits clean inside,
      served bytes co.co (with_hold co g) x row_with request first before after (serving_with waits)
          (subst (λ (d : ℕ). Serves bytes co.co request d first (with_hold co g) x before after) (sym (none_done waits)) takes.serves),
    )

    pub keeps_taken_up : (answer : Grant) → TakesUp bytes co request before after answer g x → Keeps g x
    keeps_taken_up NotYet takes = record {
      opening = ap (λ (i : ImageState D). i.opening) takes.1;
      streams = ap (λ (i : ImageState D). length i.requests) takes.1;
      rows = ap (λ (i : ImageState D). length i.phases) takes.1;
    }
    keeps_taken_up (Granted woken first) takes =
        let keeps = keeps_served bytes co.co (with_hold co g) x row_with request 0 first before after takes.serves in
        record {
          opening = keeps.opening;
          streams = keeps.streams;
          rows = keeps.rows ∙ length-set g.phases co.co (taken_up (phase_at g.phases co.co));
        }

    pub is_taken_up : (old new : Note D) → note bytes g co.co ≡ old → new ≡ note bytes x co.co
        → (answer : Grant) → IsWaitingFor old.phase co.co request
        → TakesUp bytes co request before after answer g x
        → OnGranted answer (bytes g.device ≡ bytes g.left)
        → OnGranted answer (IfSome (bytes g.device) (λ told. g.size ≤ length told))
        → IsTakenUp bytes co.co request old before answer new after
    is_taken_up old new found left answer waits takes clean inside =
        along bytes co.co g x row old new found left (λ n m. IsTakenUp bytes co.co request n before answer m after)
        (taken_so answer (ap (λ (n : Note D). n.phase) found ∙ waits) takes clean inside)
