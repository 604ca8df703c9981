use Rattle.std.proofs.Common.{◌<◌, length, sym, subst}
use Rattle.aio_chain.proofs.Steps.{length-without_first}
use Rattle.aio_handlers.proofs.keys.clear.Goals as goal

pub loop-first-smaller : goal.loop-first-smaller
loop-first-smaller c =
    let items = c.loop-first.links.items in
    subst (λ xs. length xs < length items) (sym c.unlink.ensures.items) (length-without_first c.in-Some.first items (sym c.in-Some.ensures.first))
