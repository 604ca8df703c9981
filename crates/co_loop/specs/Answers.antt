-- What an enter hands out.
use Rattle.std.specs.Prelude.{◌≡◌, ℕ, None}
use Rattle.std.specs.FinMap as map
use Rattle.co_state.specs.Coroutines.{Coroutines}
use Rattle.co_state.specs.declared.store.Entered.{Entered}
use Rattle.co_state.specs.declared.store.Entered.TheVariants as entered

module _ {C O : Type 0} where
  -- what is handed out is of the store's origin as its number, and is there no more
  abbrev pub IsFollowable : (ℕ → C → O → Type 0) → ℕ → Coroutines C O → Entered C → Type 0
  IsFollowable is_of co store (entered.Done state) = is_of co state store.origin
  IsFollowable is_of co store (entered.Moving state to) =
      is_of co state store.origin × (map.get store.held co ≡ None)
  IsFollowable is_of co store _ = Unit {0}
