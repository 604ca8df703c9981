use Rattle.aio_loop.proofs.TurnParts.{one_more_expired}
use Rattle.aio_loop.proofs.expiring.enter_each_expired.Goals as goal

pub loop-preserved : goal.loop-preserved
loop-preserved g c =
    let one = c.enter_expired.ensures in (
      tt,
      tt,
      one.can_run,
      one.home,
      one.legal,
      one.walking,
      one_more_expired g.R.LoopRunner.does c.loop.called _ _ _ c.loop.invariant.6 (rw c.if-not-enter_expired.false at one.enters),
    )
