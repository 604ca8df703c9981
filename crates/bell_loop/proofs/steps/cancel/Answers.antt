use Rattle.bell_loop.proofs.LogsGoOn.{Goes-canceled}
use Rattle.bell_loop.proofs.steps.cancel.Goals as goal

pub returns-clause-goes : goal.returns-clause-goes
returns-clause-goes c =
    Goes-canceled c.args.bh c.cancel.result _ _ c.requires.idles.first c.requires.idles.count c.cancel.ensures.step
