use Rattle.std.proofs.Common.{reverse, take}
use Rattle.aio_model.specs.Timers.States.{Tells}
use Rattle.aio_model.proofs.timers.states.timer_state.Given as goal

abbrev pub invariant-loop-place : goal.invariant-loop-place
invariant-loop-place l = Tells l.state l.timer (reverse (take l.place l.calls))
