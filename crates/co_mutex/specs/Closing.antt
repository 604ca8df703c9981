-- What is known where all passes of a lock are at rest.
use Rattle.std.specs.Prelude.{◌≡◌, ℕ, ◌<◌, List, ◌++◌}
use mathlib.Core.Option.{some}
use lib.ListN.{get_elem?}
use Rattle.aio_model.specs.Lock.History.{LockEntry, made_by, IsLegalLock, AreBelow}
use Rattle.aio_model.specs.Lock.Notes.{IsNoted}
use Rattle.co_mutex.specs.declared.lock.CoMutex.{CoMutex}
use Rattle.co_mutex.specs.declared.lock.Pass.{Pass}
use Rattle.co_mutex.specs.Places.{AtRest}
use Rattle.co_mutex.specs.Passes.{IsPassOf, built_of, passes_of, known}

abbrev pub In : {A : Type 0} → A → List A → Type 0
In a xs = (k : ℕ) × (get_elem? xs k ≡ some a)

module _ {P T N : Type 0} where
  -- these are all passes of the lock, and each is at rest
  pub record AreAll (m : CoMutex P T N) (passes : List (Pass P T N)) : Type 0 where
    pub each : (p : Pass P T N) → In p passes → IsPassOf m p × ((known p).place ≡ AtRest)
    pub all : (k : ℕ) → k < passes_of m → (p : Pass P T N) × In p passes × ((known p).number ≡ k)

  -- One legal history of the lock, of which each pass has seen a part, in which the entries of each are just its own, and which
  -- has nobody else's.
  pub record Gathers (note : T → ℕ → N) (m : CoMutex P T N) (passes : List (Pass P T N)) (history : List (LockEntry T)) : Type 0 where
    pub legal : IsLegalLock history
    pub noted : IsNoted note (built_of m) history
    pub below : AreBelow (passes_of m) history
    pub seen : (p : Pass P T N) → In p passes → (rest : List (LockEntry T)) × (history ≡ rest ++ (known p).seen)
    pub mine : (p : Pass P T N) → In p passes → made_by (known p).number history ≡ (known p).mine
