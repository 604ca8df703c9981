use Rattle.co_loop.specs.Working.{CanWork, Works}
use Rattle.loop_threads.specs.Parts.{ComesFrom}
use Rattle.loop_threads.proofs.carrying.carry.Given as goal

abbrev pub invariant-loop : goal.invariant-loop
invariant-loop g l = ComesFrom (CanWork g.C.Origin.is_of) (Works g.row.E.Denot g.row.R.Denot g.C.Origin.is_of g.C.Co.resumes g.K.Clock.time) l.shared l.fn.part l.part
