use Rattle.std.proofs.Common.{◌≡◌, length}
use Rattle.co_loop.specs.Crews.{far, IsCrew, SameCrew}
use Rattle.co_loop.specs.Drains.{DrainsSome}
use Rattle.co_loop.proofs.draining.drain.Given as goal

abbrev pub invariant-loop : goal.invariant-loop
invariant-loop g l =
    (goal.iterator-loop g).can_next l.iterator' × (goal.iterator-loop g).is_finite l.iterator'
    × IsCrew g.C.Origin.is_of l.shared l.crew
    × SameCrew l.fn.crew l.crew
    × (l.crew.store.origin ≡ l.fn.crew.store.origin)
    × DrainsSome g.C.Origin.is_of g.C.Co.resumes l.fn.crew.own l.fn.crew.coroutines (length l.shared) (far l.fn.crew) (far l.crew)
