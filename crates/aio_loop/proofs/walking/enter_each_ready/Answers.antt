use Rattle.aio_loop.proofs.TurnParts.{one_more_ready}
use Rattle.aio_loop.proofs.walking.enter_each_ready.Goals as goal

pub loop-preserved : goal.loop-preserved
loop-preserved g c =
    let one = c.enter_ready.ensures in (
      tt,
      tt,
      one.can_run,
      one.home,
      one.legal,
      one.walking,
      one_more_ready g.R.LoopRunner.does c.args.table.now.sizes.events c.loop.called _ _ _ c.loop.invariant.6 (rw c.if-not-enter_ready.false at one.enters),
    )
