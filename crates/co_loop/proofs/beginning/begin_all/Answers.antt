use Rattle.std.proofs.Common.{◌∙◌, length}
use Rattle.co_loop.specs.Crews.{far}
use Rattle.co_loop.specs.Begins.{home_far}
use Rattle.co_loop.proofs.Begun.{begins_more}
use Rattle.co_loop.proofs.beginning.begin_all.Goals as goal

pub loop-preserved : goal.loop-preserved
loop-preserved g c =
    let was = c.loop.invariant in
    let one = c.begin_next.ensures in (
      tt,
      tt,
      one.crew,
      record { own = one.same.own ∙ was.3.own; coroutines = one.same.coroutines ∙ was.3.coroutines },
      one.origin ∙ was.4,
      one.home,
      (λ end more. was.6 end (begins_more g.C.Origin.is_of g.C.Co.resumes c.args.crew.now.own c.args.crew.now.coroutines (length c.args.shared.now) c.loop.crew.own c.loop.crew.coroutines (home_far (far c.loop.crew) c.loop.home.known) (home_far (far c.begin_next.new.crew) c.begin_next.new.home.known) end was.3.own was.3.coroutines (rw c.if-not-begin_next.false at one.begins) more)),
    )
