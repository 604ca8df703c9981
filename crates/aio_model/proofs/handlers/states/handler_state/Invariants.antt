use Rattle.std.proofs.Common.{◌≤◌, reverse, take}
use Rattle.aio_model.specs.Handlers.States.{Tells}
use Rattle.aio_model.proofs.handlers.states.handler_state.Given as goal

abbrev pub invariant-loop-call : goal.invariant-loop-call
invariant-loop-call l = record {
  tells : Tells l.state (reverse (take l.call-index l.calls));
  few_added : l.state.added ≤ l.call-index;
  few_marked : l.state.marked ≤ l.call-index;
}
