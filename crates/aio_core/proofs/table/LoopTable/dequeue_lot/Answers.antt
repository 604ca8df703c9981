use Rattle.std.proofs.Common.{sym, subst}
use Rattle.aio_core.specs.Calls.{DequeuesNext, number_in}
use Rattle.aio_core.proofs.OneShots.{lot_dequeued_next}
use Rattle.aio_core.proofs.table.LoopTable.dequeue_lot.Goals as goal

pub returns-clause-steps : goal.returns-clause-steps
returns-clause-steps g c =
    let told = c.take_job-next.ensures.told in
    subst (λ job. DequeuesNext c.args.bh c.from_word.result (number_in g.J.Job.number_of job) c.args.home.now.seat.known c.take_job-next.new.seat.known) (sym told.2) (lot_dequeued_next c.args.self.now.sizes c.args.bh _ _ _ _ _ _ _ _ c.requires.seat.sizes c.requires.lot c.requires.first told.3 told.4 c.from_word.ensures.value told.5)
