use Rattle.std.proofs.Common.{◌∙◌}
use Rattle.co_loop.specs.Crews.{far}
use Rattle.co_loop.proofs.Posted.{one_more_posted}
use Rattle.co_loop.proofs.again.post_each_kept.Goals as goal

pub loop-co-preserved : goal.loop-co-preserved
loop-co-preserved g c =
    let was = c.loop-co.invariant in
    let one = c.post_kept.ensures in (
      one.crew,
      record { own = one.same.own ∙ was.1.own; coroutines = one.same.coroutines ∙ was.1.coroutines },
      one.store ∙ was.2,
      one_more_posted c.loop-co.co (far c.args.crew.now) (far c.loop-co.crew) (far c.post_kept.new.crew) was.3 one.posts,
    )
