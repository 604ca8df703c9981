-- One entry into a loop's runner, and what it does to the loop's side.
use Rattle.std.specs.Prelude.{◌≡◌, Bool, true, false, List, [], ◌∷◌, ◌++◌}
use Rattle.aio_model.specs.Loop.History.{History}
use Rattle.aio_model.specs.Loop.Frame.{Lent, Answer, Entered}
use Rattle.aio_model.specs.declared.handlers.calls.HandlerCall.{HandlerCall}
use Rattle.aio_model.specs.declared.handlers.calls.HandlerCall.TheVariants as of_handlers
use Rattle.aio_model.specs.declared.timers.calls.TimerCall.{TimerCall}
use Rattle.aio_model.specs.declared.timers.calls.TimerCall.TheVariants as of_timers
use Rattle.aio_handlers.specs.declared.answers.Ready.{Ready}
use Rattle.aio_handlers.specs.StandsFor as handlers_as
use Rattle.aio_timers.specs.declared.timers.TimerId.{TimerId}
use Rattle.aio_timers.specs.StandsFor as timers_as
use Rattle.aio_core.specs.Known.{Known}
use Rattle.aio_bh.specs.Running.{SeatComesBack}
use Rattle.aio_loop.specs.declared.side.Side.{Side}

-- what the runner is entered for
pub data LoopLent : Type 0 where
  ForBottom : Lent → Answer → LoopLent
  ForReady : Ready → LoopLent
  ForExpired : TimerId → LoopLent

-- an entry: what it was for, what was made through the seat, and the calls on handlers and on timers, each newest first
pub record LoopEntered : Type 0 where
  pub what : LoopLent
  pub made : History
  pub on_handlers : List HandlerCall
  pub on_timers : List TimerCall

-- what a callee may do to handlers
abbrev pub is_callees_on_handlers : HandlerCall → Bool
is_callees_on_handlers (of_handlers.Add id event tag) = true
is_callees_on_handlers (of_handlers.Remove id) = true
is_callees_on_handlers _ = false

-- what a callee may do to timers
abbrev pub is_callees_on_timers : TimerCall → Bool
is_callees_on_timers of_timers.Add = true
is_callees_on_timers (of_timers.Arm timer expire) = true
is_callees_on_timers (of_timers.Disarm timer) = true
is_callees_on_timers _ = false

abbrev pub EachPasses : {A : Type 0} → (A → Bool) → List A → Type 0
EachPasses test [] = true ≡ true
EachPasses test (item ∷ rest) = (test item ≡ true) × EachPasses test rest

-- the handlers and the timers are as these calls leave them, and the walk is under way or not as before
pub record ChangesSide (on_handlers : List HandlerCall) (on_timers : List TimerCall) (before after : Side) : Type 0 where
  pub handlers : (calls : List HandlerCall) → handlers_as.StandsFor before.handlers calls → handlers_as.StandsFor after.handlers (on_handlers ++ calls)
  pub timers : (calls : List TimerCall) → timers_as.StandsFor before.timers calls → timers_as.StandsFor after.timers (on_timers ++ calls)
  pub walking : after.handlers.walking ≡ before.handlers.walking
  pub handler_room : after.handlers.room ≡ before.handlers.room
  pub timer_room : after.timers.room ≡ before.timers.room

-- the runner did one entry for this, in which this was made, and the callee changed the side by calls of its own alone
pub record EntersFor {R : Type 0} (does : R → LoopEntered → R → Type 0) (what : LoopLent) (made : History) (runner : R) (side : Side) (runner_after : R) (side_after : Side) : Type 0 where
  pub on_handlers : List HandlerCall
  pub on_timers : List TimerCall
  pub callees_on_handlers : EachPasses is_callees_on_handlers on_handlers
  pub callees_on_timers : EachPasses is_callees_on_timers on_timers
  pub changes : ChangesSide on_handlers on_timers side side_after
  pub did : does runner (record { what = what; made = made; on_handlers = on_handlers; on_timers = on_timers }) runner_after

-- the seat was lent for one entry, and came back
pub record RunsOneEntry {R : Type 0} (does : R → LoopEntered → R → Type 0) (what : LoopLent) (runner : R) (side : Side) (before : Known) (runner_after : R) (side_after : Side) (after : Known) : Type 0 where
  pub made : History
  pub back : SeatComesBack made before after
  pub enters : EntersFor does what made runner side runner_after side_after

-- a runner with the side
pub record WithSide (R : Type 0) : Type 0 where
  pub runner : R
  pub side : Side

abbrev pub with_side : {R : Type 0} → R → Side → WithSide R
with_side runner side = record { runner = runner; side = side }

-- the entries of a poll
abbrev pub does_bottom : {R : Type 0} → (R → LoopEntered → R → Type 0) → WithSide R → Entered → WithSide R → Type 0
does_bottom does before entered after =
    EntersFor does (ForBottom entered.lent entered.answer) entered.made before.runner before.side after.runner after.side
