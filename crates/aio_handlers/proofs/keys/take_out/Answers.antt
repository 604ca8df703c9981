use Rattle.std.proofs.Common.{sym, ◌∙◌}
use Rattle.aio_chain.proofs.Steps.{without-absent}
use Rattle.aio_handlers.proofs.keys.take_out.Goals as goal

pub returns-else-has-clause-items : goal.returns-else-has-clause-items
returns-else-has-clause-items c =
    sym (without-absent c.args.event c.args.links.now.items (sym c.has.ensures.has ∙ c.if-has.false))
