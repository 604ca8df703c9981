-- Passes of a lock, each where its number is.
use Rattle.std.specs.Prelude.{◌≡◌, ℕ, List}
use mathlib.Core.Option.{some}
use lib.ListN.{get_elem?}
use Rattle.co_mutex.specs.declared.lock.CoMutex.{CoMutex}
use Rattle.co_mutex.specs.declared.lock.Pass.{Pass}
use Rattle.co_mutex.specs.Places.{AtRest}
use Rattle.co_mutex.specs.Passes.{IsPassOf, known}

module _ {P T N : Type 0} where
  -- pass k of the lock, at rest
  abbrev pub IsResting : CoMutex P T N → ℕ → Pass P T N → Type 0
  IsResting m k p =
      IsPassOf m p × ((known p).place ≡ AtRest) × ((known p).number ≡ k)

  abbrev pub AreResting : CoMutex P T N → List (Pass P T N) → Type 0
  AreResting m passes =
      (k : ℕ) (p : Pass P T N) → get_elem? passes k ≡ some p → IsResting m k p
