use Rattle.co_loop.specs.Working.{CanWork, Works}
use Rattle.loop_threads.proofs.Coming.{comes_on}
use Rattle.loop_threads.proofs.carrying.carry.Goals as goal

pub loop-preserved : goal.loop-preserved
loop-preserved g c =
    comes_on (CanWork g.C.Origin.is_of) (Works g.row.E.Denot g.row.R.Denot g.C.Origin.is_of g.C.Co.resumes g.K.Clock.time) c.args.shared.now c.loop.invariant c.turned-part.ensures
