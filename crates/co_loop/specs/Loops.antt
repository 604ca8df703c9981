-- One loop with coroutines on it, as the runner of its turns.
use Rattle.std.specs.Prelude.{◌≡◌, ℕ, Bool, ◌||◌, ◌==◌, MatchBool, List, [], length, slice_index_or}
use Rattle.aio_loop.specs.Entering.{LoopLent, ForBottom, ForReady, ForExpired, LoopEntered}
use Rattle.co_state.specs.Wants.{Wants}
use Rattle.co_state.specs.declared.co.CoStep.{CoStep}
use Rattle.co_schedule.specs.Calls.{SeatState, RunState}
use Rattle.loop_rows.specs.declared.shared.LoopShared.{LoopShared}
use Rattle.co_loop.specs.declared.crew.Crew.{Crew}
use Rattle.co_loop.specs.Crews.{Far, far, IsCrew}
use Rattle.co_loop.specs.Drains.{EntersAndDrains}
use Rattle.co_loop.specs.Begins.{HomeFar, home_far, IsHomeRun, TakesAndBegins}
use Rattle.co_loop.specs.Napping.{is_napping}

-- what the runner's entries change, and what they don't: which loop it is, and how many coroutines there are
pub record OnLoop (C O : Type 0) : Type 0 where
  pub own : ℕ
  pub coroutines : ℕ
  pub here : HomeFar C O
  pub is_ended : Bool

module _ {C O : Type 0} where
  -- All of it is of one loop: the home and its run are of that loop's table, with nothing taken that isn't begun, and what is lent is of
  -- the coroutines' origin.
  pub record IsOnLoop (is_of : ℕ → C → O → Type 0) (source : O) (shared : List (LoopShared C O)) (crew : Crew C O) (home : SeatState O) (run : RunState) : Type 0 where
    pub is_crew : IsCrew is_of shared crew
    pub origin : source ≡ crew.store.origin
    pub home_of : (t : LoopShared C O) → IsHomeRun (slice_index_or shared crew.own t).coroutines home run
    pub idle : home.known.stage.taken ≡ []

  -- the home and its run are of the loop of this number, and nothing is taken that isn't begun
  pub record IsNewHome (shared : List (LoopShared C O)) (own : ℕ) (home : SeatState O) (run : RunState) : Type 0 where
    pub home_of : (t : LoopShared C O) → IsHomeRun (slice_index_or shared own t).coroutines home run
    pub idle : home.known.stage.taken ≡ []

  abbrev pub on_loop : Crew C O → SeatState O → Bool → OnLoop C O
  on_loop crew home is_ended =
      record { own = crew.own; coroutines = crew.coroutines; here = home_far (far crew) home.known; is_ended = is_ended }

  -- handle 0 takes and begins what was scheduled here, and others do nothing
  abbrev pub AnswersHandle : (ℕ → C → O → Type 0) → (C → O → Wants → CoStep → C → Type 0) → ℕ → ℕ → ℕ → ℕ → HomeFar C O → HomeFar C O → Type 0
  AnswersHandle is_of resumes own n loops bh before after =
      MatchBool (bh == 0) (TakesAndBegins is_of resumes own n loops before after) (after ≡ before)

  -- one that sleeps until this timer is entered, and another isn't touched
  abbrev pub ExpiresFor : (ℕ → C → O → Type 0) → (C → O → Wants → CoStep → C → Type 0) → ℕ → ℕ → ℕ → ℕ → Far C O → Far C O → Type 0
  ExpiresFor is_of resumes own n loops co before after =
      MatchBool (is_napping before.naps co) (EntersAndDrains is_of resumes own n loops co before after) (after ≡ before)

  -- what an entry for this does
  abbrev pub DoesFor : (ℕ → C → O → Type 0) → (C → O → Wants → CoStep → C → Type 0) → ℕ → LoopLent → OnLoop C O → OnLoop C O → Type 0
  DoesFor is_of resumes loops (ForBottom lent answer) before after =
      AnswersHandle is_of resumes before.own before.coroutines loops lent.bh before.here after.here × (after.is_ended ≡ before.is_ended)
  DoesFor is_of resumes loops (ForReady ready) before after =
      (after.here ≡ before.here) × (after.is_ended ≡ (before.is_ended || ready.event == 0))
  DoesFor is_of resumes loops (ForExpired id) before after =
      ExpiresFor is_of resumes before.own before.coroutines loops id.number before.here.far after.here.far × (after.here.known ≡ before.here.known) × (after.is_ended ≡ before.is_ended)

  -- An entry makes nothing through the lent seat, and changes no handler and no timer.
  pub record RunnerDoes (is_of : ℕ → C → O → Type 0) (resumes : C → O → Wants → CoStep → C → Type 0) (shared : List (LoopShared C O)) (entered : LoopEntered) (before after : OnLoop C O) : Type 0 where
    pub makes_none : entered.made ≡ []
    pub handlers : entered.on_handlers ≡ []
    pub timers : entered.on_timers ≡ []
    pub own : after.own ≡ before.own
    pub coroutines : after.coroutines ≡ before.coroutines
    pub does : DoesFor is_of resumes (length shared) entered.what before after
