-- What is left to do behind a turn.
use Rattle.std.specs.Prelude.{◌≡◌, ℕ, ◌≤◌, Bool}
use Rattle.lot_pool.specs.Pools.{PoolState, PassState}
use Rattle.aio_loop.specs.declared.turned.Turned.{Turned}
use Rattle.aio_loop.specs.Entering.{LoopEntered}
use Rattle.aio_loop.specs.Walks.{LoopFar}
use Rattle.aio_loop.specs.Turns.{Turns}
use Rattle.aio_timers.specs.StandsFor.{TimerList}
use Rattle.co_loop.specs.Crews.{Far}
use Rattle.co_loop.specs.Again.{PostsEachAgain}
use Rattle.co_loop.specs.Napping.{Bed, bed, ArmsEach}

-- The clock was read once. The timers of all that had asked to sleep were armed from then on, and all that were kept were posted again.
pub record EndsTurn {C O : Type 0} (time time_after n : ℕ) (before : Far C O) (timers : TimerList) (after : Far C O) (timers_after : TimerList) : Type 0 where
  pub later : time ≤ time_after
  pub armed : Bed
  pub arms : ArmsEach time_after n (bed before.naps timers) armed
  pub timers_are : timers_after ≡ armed.timers
  pub posts : PostsEachAgain n (record before { naps = armed.naps }) after

-- A turn by this runner, and behind it what is left to do: home, the handlers and this of the runner are as the turn left them.
pub record TurnsAndEnds {R C O : Type 0} (does : R → LoopEntered → R → Type 0) (here : R → Far C O) (same : R → R → Type 0) (pool : PoolState) (block : Bool) (events n : ℕ) (turned : Turned) (time time_after : ℕ) (pass pass_after : PassState) (before after : LoopFar R) : Type 0 where
  pub turned_to : LoopFar R
  pub time_turned : ℕ
  pub turns : Turns does pool block events turned time time_turned pass pass_after before turned_to
  pub ends : EndsTurn time_turned time_after n (here turned_to.runner) turned_to.side.timers (here after.runner) after.side.timers
  pub handlers : after.side.handlers ≡ turned_to.side.handlers
  pub known : after.known ≡ turned_to.known
  pub keeps : same turned_to.runner after.runner
