-- The list of those that were scheduled here is taken, and each is begun.
use Rattle.std.specs.Prelude.{◌≡◌, ℕ, ◌≤◌, Bool, ◌||◌, is_some, nat_le, MatchBool, Option, None, Some, List, [], ◌∷◌, slice_index_or, slice_set}
use Rattle.std.specs.FinMap as map
use Rattle.co_state.specs.Wants.{Wants}
use Rattle.co_state.specs.declared.co.CoStep.{CoStep}
use Rattle.co_schedule.specs.Known.{Known}
use Rattle.co_schedule.specs.Parcels.{has_some}
use Rattle.co_schedule.specs.Calls.{TableState, SeatState, RunState, IsSeatOf, HasTaken, HasBegunFirst}
use Rattle.co_loop.specs.Crews.{Far}
use Rattle.co_loop.specs.Drains.{EntersAndDrains}

-- the run is what this home has taken and not begun, and has room for all
pub record IsHomeRun {O : Type 0} (table : TableState O) (home : SeatState O) (run : RunState) : Type 0 where
  pub home_of : IsSeatOf table home
  pub is_taken : run.cos ≡ home.known.stage.taken
  pub room : table.coroutines ≤ run.room

-- what changes, with what home knows of the table
pub record HomeFar (C O : Type 0) : Type 0 where
  pub far : Far C O
  pub known : Known

module _ {C O : Type 0} where
  abbrev pub home_far : Far C O → Known → HomeFar C O
  home_far far known = record { far = far; known = known }

  -- the number is here already, or there is no room
  abbrev pub is_refused : ℕ → Far C O → Bool
  is_refused co before =
      is_some (slice_index_or before.leaving co None) || map.contains_key before.store.held co || nat_le before.store.room (map.len before.store.held)

  -- the state is in the store, or, where it was refused, among the ended
  abbrev pub Admits : ℕ → C → Far C O → Far C O → Type 0
  Admits co state before after =
      MatchBool (is_refused co before) (after ≡ record before { ended = slice_set before.ended co (Some state) }) (after ≡ record before { store = record before.store { held = map.insert before.store.held co state } })

  abbrev pub AdmitsGiven : ℕ → Option C → Far C O → Far C O → Type 0
  AdmitsGiven co None before after = after ≡ before
  AdmitsGiven co (Some state) before after = Admits co state before after

  -- The first of those that home took was begun. Its state, if it brought one, came in, and it was entered, and then those that were
  -- woken.
  pub record BeginsOne (is_of : ℕ → C → O → Type 0) (resumes : C → O → Wants → CoStep → C → Type 0) (own n loops : ℕ) (before after : HomeFar C O) : Type 0 where
    pub co : ℕ
    pub given : Option C
    pub begun : HasBegunFirst co (has_some given) before.known after.known
    pub admitted : Far C O
    pub admits : AdmitsGiven co given before.far admitted
    pub enters : EntersAndDrains is_of resumes own n loops co admitted after.far

  abbrev pub BeginsNext : (ℕ → C → O → Type 0) → (C → O → Wants → CoStep → C → Type 0) → ℕ → ℕ → ℕ → Bool → HomeFar C O → HomeFar C O → Type 0
  BeginsNext is_of resumes own n loops some before after =
      MatchBool some (BeginsOne is_of resumes own n loops before after) ((before.known.stage.taken ≡ []) × (after ≡ before))

  -- these were begun, each once and in this order
  abbrev pub BeginsThese : (ℕ → C → O → Type 0) → (C → O → Wants → CoStep → C → Type 0) → ℕ → ℕ → ℕ → List ℕ → HomeFar C O → HomeFar C O → Type 0
  BeginsThese is_of resumes own n loops [] before after = after ≡ before
  BeginsThese is_of resumes own n loops (co ∷ cos) before after =
      (mid : HomeFar C O) × (one : BeginsOne is_of resumes own n loops before mid) × (one.co ≡ co) × BeginsThese is_of resumes own n loops cos mid after

  -- All that was pushed and not entered was taken by one step, and all of it was begun, in order of pushing.
  pub record TakesAndBegins (is_of : ℕ → C → O → Type 0) (resumes : C → O → Wants → CoStep → C → Type 0) (own n loops : ℕ) (before after : HomeFar C O) : Type 0 where
    pub taken : Known
    pub takes : HasTaken before.known taken
    pub begins : BeginsThese is_of resumes own n loops taken.stage.taken (record before { known = taken }) after
    pub none_left : after.known.stage.taken ≡ []
