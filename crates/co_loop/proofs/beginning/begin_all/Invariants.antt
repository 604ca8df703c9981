use Rattle.std.proofs.Common.{◌≡◌, length}
use Rattle.co_loop.specs.Crews.{far, IsCrew, SameCrew}
use Rattle.co_loop.specs.Begins.{HomeFar, home_far, IsHomeRun, BeginsThese}
use Rattle.co_loop.proofs.beginning.begin_all.Given as goal

abbrev pub invariant-loop : goal.invariant-loop
invariant-loop g l =
    (goal.iterator-loop g).can_next l.iterator' × (goal.iterator-loop g).is_finite l.iterator'
    × IsCrew g.C.Origin.is_of l.shared l.crew
    × SameCrew l.fn.crew l.crew
    × (l.crew.store.origin ≡ l.fn.crew.store.origin)
    × IsHomeRun l.table l.home l.run
    × ((end : HomeFar g.row.C.Denot g.row.C-Source.Denot) → BeginsThese g.C.Origin.is_of g.C.Co.resumes l.fn.crew.own l.fn.crew.coroutines (length l.shared) l.home.known.stage.taken (home_far (far l.crew) l.home.known) end → BeginsThese g.C.Origin.is_of g.C.Co.resumes l.fn.crew.own l.fn.crew.coroutines (length l.shared) l.fn.home.known.stage.taken (home_far (far l.fn.crew) l.fn.home.known) end)
