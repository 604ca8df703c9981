-- The part of a turn that calls timers.
use Rattle.std.specs.Prelude.{◌≡◌, ℕ, zero, suc, ◌≤◌, nat_lt, Bool, List, ◌∷◌}
use Rattle.aio_model.specs.declared.timers.calls.TimerCall.{TimerCall}
use Rattle.aio_model.specs.declared.timers.calls.TimerCall.TheVariants.{RunBegin, Give}
use Rattle.aio_model.specs.Timers.Calls.{is_marked, IsFirstOfKind, IsNone}
use Rattle.aio_timers.specs.declared.timers.TimerId.{TimerId}
use Rattle.aio_timers.specs.StandsFor.{StandsFor}
use Rattle.aio_loop.specs.declared.side.Side.{Side}
use Rattle.aio_loop.specs.Entering.{LoopEntered, ForExpired, RunsOneEntry}
use Rattle.aio_loop.specs.Walks.{LoopFar, loop_far}

-- the timers are what this call more leaves, and the handlers are the same
pub record OneTimerCall (call : TimerCall) (before after : Side) : Type 0 where
  pub timers : (calls : List TimerCall) → StandsFor before.timers calls → StandsFor after.timers (call ∷ calls)
  pub handlers : after.handlers ≡ before.handlers

-- the run gave its first timer, and then the runner was entered for it
pub record EntersExpired {R : Type 0} (does : R → LoopEntered → R → Type 0) (id : TimerId) (before after : LoopFar R) : Type 0 where
  pub first : (calls : List TimerCall) → StandsFor before.side.timers calls → IsFirstOfKind is_marked calls id.number
  pub given : Side
  pub gives : OneTimerCall (Give id.number) before.side given
  pub runs : RunsOneEntry does (ForExpired id) before.runner given before.known after.runner after.side after.known

-- so many, one after another
abbrev pub EntersEachExpired : {R : Type 0} → (R → LoopEntered → R → Type 0) → ℕ → LoopFar R → LoopFar R → Type 0
EntersEachExpired does zero before after = after ≡ before
EntersEachExpired {R} does (suc more) before after =
    (mid : LoopFar R) × EntersEachExpired does more before mid × (id : TimerId) × EntersExpired does id mid after

-- The run gave so many timers, each of which was entered when it was given, and has none left; `called` tells whether there were any.
pub record EntersAllExpired {R : Type 0} (does : R → LoopEntered → R → Type 0) (called : Bool) (before after : LoopFar R) : Type 0 where
  pub count : ℕ
  pub some : called ≡ nat_lt 0 count
  pub enters : EntersEachExpired does count before after
  pub none_left : (calls : List TimerCall) → StandsFor after.side.timers calls → IsNone is_marked calls

-- The clock was read once, and the timers that had expired then were run.
pub record RunsExpired {R : Type 0} (does : R → LoopEntered → R → Type 0) (called : Bool) (time time_after : ℕ) (before after : LoopFar R) : Type 0 where
  pub later : time ≤ time_after
  pub begun : Side
  pub begins : OneTimerCall (RunBegin time_after) before.side begun
  pub enters : EntersAllExpired does called (loop_far before.known begun before.runner) after
