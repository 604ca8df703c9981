use Rattle.std.proofs.Common.{◌∙◌, length}
use Rattle.co_loop.specs.Crews.{far}
use Rattle.co_loop.proofs.Drained.{one_more_entered}
use Rattle.co_loop.proofs.draining.drain.Goals as goal

pub loop-preserved : goal.loop-preserved
loop-preserved g c =
    let was = c.loop.invariant in
    let one = c.enter_next.ensures in (
      tt,
      tt,
      one.crew,
      record { own = one.same.own ∙ was.3.own; coroutines = one.same.coroutines ∙ was.3.coroutines },
      one.origin ∙ was.4,
      one_more_entered g.C.Origin.is_of g.C.Co.resumes c.args.crew.now.own c.args.crew.now.coroutines (length c.args.shared.now) c.loop.crew.own c.loop.crew.coroutines (far c.args.crew.now) (far c.loop.crew) (far c.enter_next.new.crew) was.3.own was.3.coroutines was.5 (rw c.if-not-enter_next.false at one.enters),
    )
