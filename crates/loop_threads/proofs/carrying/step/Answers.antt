use Rattle.co_loop.specs.Working.{CanWork, Works}
use Rattle.loop_threads.proofs.Coming.{comes_here, comes_on}
use Rattle.loop_threads.proofs.carrying.step.Goals as goal

pub returns : goal.returns
returns g c =
    comes_on (CanWork g.C.Origin.is_of) (Works g.row.E.Denot g.row.R.Denot g.C.Origin.is_of g.C.Co.resumes g.K.Clock.time) c.args.shared.now (comes_here (CanWork g.C.Origin.is_of) (Works g.row.E.Denot g.row.R.Denot g.C.Origin.is_of g.C.Co.resumes g.K.Clock.time) c.args.shared.now c.args.part c.requires.part) c.turned.ensures
