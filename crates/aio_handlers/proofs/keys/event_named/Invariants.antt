use Rattle.std.proofs.Common.{length}
use Rattle.aio_chain.specs.LinkList.{rest_from}
use Rattle.aio_handlers.specs.Slots.{slot_of}
use Rattle.aio_handlers.proofs.Sought.{Seeks}
use Rattle.aio_handlers.proofs.keys.event_named.Given as goal

abbrev pub invariant-loop-at : goal.invariant-loop-at
invariant-loop-at l = Seeks (slot_of l.places) l.id l.live.items l.at

abbrev pub decreases-loop-at : goal.decreases-loop-at
decreases-loop-at l = length (rest_from l.at l.live.items)
