-- The rule on the slots: a coroutine that stands nowhere has no state in its slot; one that was pushed has just what its
-- schedule gave, of the table's origin, but while home has the slot out.
use Rattle.std.specs.Prelude.{◌≡◌, ℕ, ◌<◌, ◌==◌, Bool, true, false, MatchBool, Option, None, Some, List}
use mathlib.Core.Option.{some}
use lib.ListN.{get_elem?}
use Rattle.atomic_table.specs.Table.{State}
use Rattle.table_seats.specs.Seats.{owns, home, EachView}
use Rattle.aio_model.specs.Coroutines.History.{History, Free, Pushed, co_place_of}
use Rattle.co_schedule.specs.Known.{Stage, Known, numbers_of}
use Rattle.co_schedule.specs.Rule.{Stands}

abbrev pub is_at_hand : ℕ → Option ℕ → Bool
is_at_hand c None = false
is_at_hand c (Some d) = c == d

-- `given_in`: whether what lies in a slot has a state; `IsOf`: what it has is of the table's origin, as that number
module _ {S : Type 0} (given_in : S → Bool) (IsOf : ℕ → S → Type 0) where
  abbrev pub Slot : Type 0
  Slot = mathlib.Core.Option.Option (mathlib.Core.Option.Option S)

  abbrev pub IsVacant : Slot → Type 0
  IsVacant at = (x : S) × (at ≡ some (some x)) × (given_in x ≡ false)

  abbrev pub HasState : ℕ → Bool → Slot → Type 0
  HasState c given at = (x : S) × (at ≡ some (some x)) × (given_in x ≡ given) × IsOf c x

  -- what home's view says of the slot of a coroutine that was pushed
  abbrev pub Holds : ℕ → Stage → Bool → Slot → Type 0
  Holds c stage given at =
      MatchBool (is_at_hand c stage.hand) (stage.given ≡ given) (HasState c given at)

  abbrev pub HoldsAll : ℕ → History → List (mathlib.Core.Option.Option S) → Known → Type 0
  HoldsAll n history homes known =
      owns (numbers_of known) home ≡ true → (c : ℕ) → c < n → (seat : ℕ) (given : Bool) → co_place_of c history ≡ Pushed seat given → Holds c known.stage given (get_elem? homes c)

  pub record SlotsStand (n : ℕ) (history : History) (homes : List (mathlib.Core.Option.Option S)) (views : List Known) : Type 0 where
    pub vacant : (c : ℕ) → c < n → co_place_of c history ≡ Free → IsVacant (get_elem? homes c)
    pub full : EachView (HoldsAll n history homes) views

  abbrev pub Kept : ℕ → State S Known → Type 0
  Kept n state =
      (history : History) × Stands n history state.words state.views × SlotsStand n history state.homes state.views
