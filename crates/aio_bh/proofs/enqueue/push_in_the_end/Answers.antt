use Rattle.aio_bh.proofs.Trying.{trying_on}
use Rattle.aio_bh.proofs.enqueue.push_in_the_end.Goals as goal

pub loop-preserved : goal.loop-preserved
loop-preserved g c =
    (tt, tt, trying_on c.args.table.now c.args.owed c.args.seat.now c.loop.seat c.push_and_notify.new.seat c.loop.owed c.in-Err.again c.loop.invariant.2 c.in-Err.ensures.seat c.in-Err.ensures.step.0 c.in-Err.ensures.step.1 c.in-Err.ensures.step.2)
