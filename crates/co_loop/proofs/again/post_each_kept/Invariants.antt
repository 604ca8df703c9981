use Rattle.std.proofs.Common.{◌≡◌}
use Rattle.co_loop.specs.Crews.{far, IsCrew, SameCrew}
use Rattle.co_loop.specs.Again.{PostsEachAgain}
use Rattle.co_loop.proofs.again.post_each_kept.Given as goal

abbrev pub invariant-loop-co : goal.invariant-loop-co
invariant-loop-co g l =
    IsCrew g.C.Origin.is_of l.shared l.crew
    × SameCrew l.fn.crew l.crew
    × (l.crew.store ≡ l.fn.crew.store)
    × PostsEachAgain l.co (far l.fn.crew) (far l.crew)
