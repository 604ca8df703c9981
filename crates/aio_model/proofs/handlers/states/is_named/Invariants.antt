use Rattle.std.proofs.Common.{◌≡◌, is_some, drop}
use Rattle.aio_model.specs.Handlers.Calls.{named}
use Rattle.aio_model.proofs.handlers.states.is_named.Given as goal

abbrev pub invariant-loop-handler : goal.invariant-loop-handler
invariant-loop-handler l = is_some (named l.id l.handlers) ≡ is_some (named l.id (drop l.handler-index l.handlers))
