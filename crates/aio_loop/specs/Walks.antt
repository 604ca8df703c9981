-- The part of a turn that calls handlers.
use Rattle.std.specs.Prelude.{◌≡◌, ℕ, zero, suc, Bool, nat_lt, MatchBool, None, Some, List, ◌∷◌}
use Rattle.aio_model.specs.declared.handlers.calls.HandlerCall.{HandlerCall}
use Rattle.aio_model.specs.declared.handlers.calls.HandlerCall.TheVariants.{WalkBegin, Give, WalkEnd}
use Rattle.aio_handlers.specs.declared.answers.Ready.{Ready}
use Rattle.aio_handlers.specs.Answers.{first_ready}
use Rattle.aio_handlers.specs.StandsFor.{StandsFor}
use Rattle.aio_core.specs.Known.{Known}
use Rattle.aio_core.specs.SleepSteps.{ClearsEvent}
use Rattle.aio_notify.specs.Watching.{FindsBits}
use Rattle.aio_loop.specs.declared.side.Side.{Side}
use Rattle.aio_loop.specs.Blocking.{WatchesLive}
use Rattle.aio_loop.specs.Entering.{LoopEntered, ForReady, RunsOneEntry}

-- what a part of a turn changes: what home knows, the side and the runner
pub record LoopFar (R : Type 0) : Type 0 where
  pub known : Known
  pub side : Side
  pub runner : R

abbrev pub loop_far : {R : Type 0} → Known → Side → R → LoopFar R
loop_far known side runner =
    record { known = known; side = side; runner = runner }

-- the handlers are what this call more leaves, and the timers are the same
pub record OneHandlerCall (call : HandlerCall) (before after : Side) : Type 0 where
  pub handlers : (calls : List HandlerCall) → StandsFor before.handlers calls → StandsFor after.handlers (call ∷ calls)
  pub timers : after.timers ≡ before.timers

-- an event of the table was cleared; a number that is no event of the table has nothing to clear
abbrev pub ClearsFirst : ℕ → ℕ → Known → Known → Type 0
ClearsFirst events event before after =
    MatchBool (nat_lt event events) ((found : ℕ) × ClearsEvent event found before after) (after ≡ before)

-- the walk gave a handler, its event was cleared, and then the runner was entered for it
pub record EntersReady {R : Type 0} (does : R → LoopEntered → R → Type 0) (events : ℕ) (ready : Ready) (before after : LoopFar R) : Type 0 where
  pub first : first_ready before.side.handlers.waiting ≡ Some ready
  pub given : Side
  pub gives : OneHandlerCall (Give ready.id.number) before.side given
  pub cleared : Known
  pub clears : ClearsFirst events ready.event before.known cleared
  pub runs : RunsOneEntry does (ForReady ready) before.runner given cleared after.runner after.side after.known

-- so many, one after another
abbrev pub EntersEachReady : {R : Type 0} → (R → LoopEntered → R → Type 0) → ℕ → ℕ → LoopFar R → LoopFar R → Type 0
EntersEachReady does events zero before after = after ≡ before
EntersEachReady {R} does events (suc more) before after =
    (mid : LoopFar R) × EntersEachReady does events more before mid × (ready : Ready) × EntersReady does events ready mid after

-- the watched events were looked at, and a walk was begun over the handlers of those that were found set
pub record BeginsWalk (events : ℕ) (known : Known) (side : Side) (known_after : Known) (side_after : Side) : Type 0 where
  pub watch : ℕ
  pub watches : WatchesLive side.handlers watch
  pub bits : ℕ
  pub finds : FindsBits watch events bits known known_after
  pub begins : OneHandlerCall (WalkBegin bits) side side_after

-- The walk gave so many handlers, each of which was entered when it was given, and has none left; `called` tells whether there were any.
pub record EntersAllReady {R : Type 0} (does : R → LoopEntered → R → Type 0) (events : ℕ) (called : Bool) (before after : LoopFar R) : Type 0 where
  pub count : ℕ
  pub some : called ≡ nat_lt 0 count
  pub enters : EntersEachReady does events count before after
  pub none_left : first_ready after.side.handlers.waiting ≡ None

-- The walk was begun, its handlers were entered, and it was ended, which freed those that were removed in it.
pub record Walks {R : Type 0} (does : R → LoopEntered → R → Type 0) (events : ℕ) (called : Bool) (before after : LoopFar R) : Type 0 where
  pub looked : Known
  pub begun : Side
  pub begins : BeginsWalk events before.known before.side looked begun
  pub given : Side
  pub enters : EntersAllReady does events called (loop_far looked begun before.runner) (loop_far after.known given after.runner)
  pub ends : OneHandlerCall WalkEnd given after.side
