-- Whoever is named to be woken was queued and has its hold now.
use Rattle.std.proofs.Common.{◌≡◌, ◌≢◌, ℕ, zero, suc, ◌<◌, set, List, [], ◌∷◌, length, Option, Some, None, IfSome, sym, subst, arith}
use Rattle.aio_model.specs.Holds.{Has, HasTicket}
use Rattle.aio_model.specs.Holds.WhoHolds.{hold_of}
use Rattle.img_shared.specs.declared.phases.Phase.{Phase}
use Rattle.img_shared.specs.Calls.{IsGranted}
use Rattle.img_shared.specs.Images.{ImageState}
use Rattle.img_shared.specs.Phases.{IsWaiting, phase_at}
use Rattle.img_shared.specs.Soundness.{IsSound}
use Rattle.img_shared.proofs.Granting.{ticket_waits, has_not_waits}
use Rattle.img_shared.proofs.Sounds.{phase_else}

waiting_known : (phases : List Phase) (k : ℕ) → IsWaiting (phase_at phases k) → k < length phases
waiting_known [] k waits = absurd waits
waiting_known (p ∷ phases) zero waits = omega arith
waiting_known (p ∷ phases) (suc k) waits = let more : k < length phases = waiting_known phases k waits in omega (arith, more)

module _ {D : Type 0} (bytes : D → Option (List ℕ)) (old : ImageState D) (sound : IsSound bytes old) (s : ℕ) (busy : Has (hold_of old.access s))
    (new : ImageState D) (requests : new.requests ≡ old.requests) (x : Phase) (phases : new.phases ≡ set old.phases s x) where
  named_one : (next : ℕ) → HasTicket (hold_of old.access next) × Has (hold_of new.access next) → IsGranted new next
  named_one next woken =
      let waits : IsWaiting (phase_at old.phases next) = ticket_waits (phase_at old.phases next) (hold_of old.access next) (sound.linked next) woken.0 in
      let other : next ≢ s = λ same. has_not_waits (hold_of old.access s) busy (subst (λ (k : ℕ). HasTicket (hold_of old.access k)) same woken.0) in
      let below : next < length old.phases = waiting_known old.phases next waits in
      record {
        known = subst (λ (l : List ℕ). next < length l) (sym requests) (omega (arith, below, sound.streams));
        waits = subst (λ (l : List Phase). IsWaiting (phase_at l next)) (sym phases) (subst IsWaiting (sym (phase_else old.phases s x next other)) waits);
        holds = woken.1;
      }

  pub named_all : (woken : Option ℕ) → IfSome woken (λ next. HasTicket (hold_of old.access next) × Has (hold_of new.access next))
      → IfSome woken (λ next. IsGranted new next)
  named_all None woken = tt
  named_all (Some next) woken = named_one next woken
