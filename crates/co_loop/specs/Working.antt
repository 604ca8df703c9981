-- The coroutines of a loop, and what a turn of its thread does to them.
use Rattle.std.specs.Prelude.{◌≡◌, ℕ, ◌<◌, ◌≤◌, Bool, ◌&&◌, not, List, [], length, slice_index_or}
use Rattle.co_state.specs.Wants.{Wants}
use Rattle.co_state.specs.declared.co.CoStep.{CoStep}
use Rattle.lot_pool.specs.Pools.{PoolState}
use Rattle.aio_loop.specs.declared.turned.Turned.{Turned}
use Rattle.aio_loop.specs.Walks.{loop_far}
use Rattle.loop_rows.specs.declared.shared.LoopShared.{LoopShared}
use Rattle.co_schedule.specs.Calls.{RunState}
use Rattle.loop_rows.specs.LoopStates.{LoopState, IsStation}
use Rattle.loop_rows.specs.declared.rows.Row.{Row}
use Rattle.co_loop.specs.declared.crew.Crew.{Crew}
use Rattle.co_loop.specs.declared.on_loop.CoLoop.{CoLoop}
use Rattle.co_loop.specs.declared.working.CoWork.{CoWork}
use Rattle.co_loop.specs.Rows.{AreOfOrigin}
use Rattle.co_loop.specs.Building.{IsNewCrew}
use Rattle.co_loop.specs.Crews.{far}
use Rattle.co_loop.specs.Again.{is_kept}
use Rattle.co_loop.specs.Loops.{IsOnLoop, RunnerDoes, on_loop}
use Rattle.co_loop.specs.Turning.{TurnsAndEnds}

-- the crew with the seats of this row
abbrev pub seated : {C O : Type 0} → Crew C O → Row C O → Crew C O
seated crew row = record crew { seats = row.seats }

-- With the seats of its thread's row the crew fits the loop, and each coroutine has a timer.
pub record CanWork {C K O : Type 0} (is_of : ℕ → C → O → Type 0) (work : CoWork C K O) (shared : List (LoopShared C O)) (loop : LoopState C O) : Type 0 where
  pub fits : IsOnLoop is_of work.crew.store.origin shared (seated work.crew loop.row) loop.coroutines work.run
  pub own : work.crew.own ≡ loop.number
  pub timers : work.crew.coroutines ≤ loop.side.timers.made

-- Nobody is on the loop yet: the crew is new, and of this loop, whose coroutines are as many and of this origin; home has taken nothing,
-- and each coroutine has a timer.
pub record CrewCanStart {C O : Type 0} (origin : O) (shared : List (LoopShared C O)) (loop : LoopState C O) (crew : Crew C O) (run : RunState) : Type 0 where
  pub station : IsStation shared loop
  pub crew_is : IsNewCrew origin crew
  pub own : crew.own ≡ loop.number
  pub coroutines : (k : ℕ) (t : LoopShared C O) → k < length shared → (slice_index_or shared k t).coroutines.coroutines ≡ crew.coroutines
  pub of : AreOfOrigin origin shared
  pub run_is : run ≡ record { room = crew.coroutines; cos = [] }
  pub idle : loop.coroutines.known.stage.taken ≡ []
  pub timers : crew.coroutines ≤ loop.side.timers.made

-- what the runner of a turn is made of
pub record IsRunnerOf {C E W K O : Type 0} (work : CoWork C K O) (loop : LoopState C O) (runner : CoLoop C E W O) : Type 0 where
  pub crew : runner.crew ≡ seated work.crew loop.row
  pub home : runner.home ≡ loop.coroutines
  pub run : runner.run ≡ work.run
  pub is_ended : runner.is_ended ≡ work.is_ended

-- The work was done by one turn of the loop with its coroutines. The loop's run has ended where event 0 was found set, in this turn or
-- before, the turn found nothing to do, and no coroutine is kept for another loop.
pub record Works (E W : Type 0) {C K O : Type 0} (is_of : ℕ → C → O → Type 0) (resumes : C → O → Wants → CoStep → C → Type 0) (time : K → ℕ) (shared : List (LoopShared C O)) (work : CoWork C K O) (loop : LoopState C O) (ended : Bool) (work_after : CoWork C K O) (loop_after : LoopState C O) : Type 0 where
  pub runner : CoLoop C E W O
  pub runner_is : IsRunnerOf work loop runner
  pub shared_is : runner.shared.now ≡ shared
  pub runner_after : CoLoop C E W O
  pub after_is : IsRunnerOf work_after loop_after runner_after
  pub pool : PoolState
  pub pool_is : (t : LoopShared C O) → pool ≡ (slice_index_or shared loop.number t).pool
  pub events : ℕ
  pub events_are : (t : LoopShared C O) → events ≡ (slice_index_or shared loop.number t).bottoms.sizes.events
  pub block : Bool
  pub turned : Turned
  pub turns : TurnsAndEnds (λ before entered after. (after.shared ≡ before.shared) × (after.env ≡ before.env) × RunnerDoes is_of resumes before.shared.now entered (on_loop before.crew before.home before.is_ended) (on_loop after.crew after.home after.is_ended)) (λ (e : CoLoop C E W O). far e.crew) (λ (turned_to after : CoLoop C E W O). (after.home ≡ turned_to.home) × (after.is_ended ≡ turned_to.is_ended)) pool block events work.crew.coroutines turned (time work.clock) (time work_after.clock) loop.lots loop_after.lots (loop_far loop.home.known loop.side runner) (loop_far loop_after.home.known loop_after.side runner_after)
  pub ended_is : ended ≡ (work_after.is_ended && (not turned.progress && not (is_kept work_after.crew.leaving.items)))
