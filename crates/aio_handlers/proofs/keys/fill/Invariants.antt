use Rattle.std.proofs.Common.{◌≡◌, length}
use Rattle.aio_chain.specs.LinkList.{rest_from}
use Rattle.aio_handlers.proofs.Sought.{Fills}
use Rattle.aio_handlers.proofs.keys.fill.Given as goal

abbrev pub invariant-loop-at : goal.invariant-loop-at
invariant-loop-at l = Fills l.found l.live.items l.waiting.items l.at × (l.waiting.room ≡ 64)

abbrev pub decreases-loop-at : goal.decreases-loop-at
decreases-loop-at l = length (rest_from l.at l.live.items)
