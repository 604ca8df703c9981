use Rattle.std.proofs.Common.{sym, ◌∙◌}
use Rattle.aio_model.proofs.HandlerLists.{named_here, named_later}
use Rattle.aio_model.proofs.handlers.states.is_named.Goals as goal

pub returns-then-handler-id : goal.returns-then-handler-id
returns-then-handler-id c =
    sym (c.loop-handler.invariant ∙ named_here c.args.id c.loop-handler.handler-index c.args.handlers.now _ c.loop-handler-test.true c.if-handler-id.true)

pub loop-handler-preserved : goal.loop-handler-preserved
loop-handler-preserved c =
    c.loop-handler.invariant ∙ named_later c.args.id c.loop-handler.handler-index c.args.handlers.now _ c.loop-handler-test.true c.if-handler-id.false
