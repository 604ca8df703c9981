use Rattle.aio_notify.proofs.Vain.{waits_again}
use Rattle.aio_notify.proofs.parking.wait_for_notifier.Goals as goal

pub loop-preserved : goal.loop-preserved
loop-preserved g c = (
  tt,
  tt,
  waits_again c.args.table.now c.args.home.now.seat c.loop.home.seat c.load_notifier.new.home.seat c.load_notifier.result c.loop.invariant.2 c.load_notifier.ensures.seat c.load_notifier.ensures.step c.if-load_notifier.false,
)
