use Rattle.std.proofs.Common.{◌≡◌, length}
use Rattle.aio_handlers.proofs.keys.clear.Given as goal

abbrev pub invariant-loop-first : goal.invariant-loop-first
invariant-loop-first l = l.links.room ≡ l.fn.links.room

abbrev pub decreases-loop-first : goal.decreases-loop-first
decreases-loop-first l = length l.links.items
