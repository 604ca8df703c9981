use Rattle.aio_notify.proofs.Looks.{same_at_bits}
use Rattle.aio_notify.proofs.events.LoopTableLoopEvents.found_set.Goals as goal

pub returns-clause-same : goal.returns-clause-same
returns-clause-same g c =
    same_at_bits c.args.watch c.loop-event.event c.loop-event.bits c.args.home.now.seat.known c.loop-event.home.seat.known c.loop-event.invariant.2
