use Rattle.std.proofs.Common.{subst}
use Rattle.aio_core.specs.Standing.{Dequeues}
use Rattle.aio_core.proofs.OneShots.{handle_dequeued}
use Rattle.aio_core.proofs.table.LoopTable.dequeue_handle.Goals as goal

pub returns-clause-steps : goal.returns-clause-steps
returns-clause-steps g c =
    let dequeues : Dequeues c.args.bh c.dequeue.result c.lift-hand.new.home.seat.known c.dequeue.new.home.seat.known = subst (λ n. Dequeues n c.dequeue.result c.lift-hand.new.home.seat.known c.dequeue.new.home.seat.known) c.lift-hand.ensures.hand c.dequeue.ensures.step in
    handle_dequeued c.args.self.now.sizes c.args.bh c.dequeue.result _ _ _ c.requires.seat.sizes c.requires.handle c.lift-hand.ensures.step dequeues
