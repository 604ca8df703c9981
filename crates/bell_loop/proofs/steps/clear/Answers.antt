use Rattle.bell_loop.proofs.LogsGoOn.{Goes-cleared}
use Rattle.bell_loop.proofs.steps.clear.Goals as goal

pub returns-clause-goes : goal.returns-clause-goes
returns-clause-goes c =
    Goes-cleared c.args.event c.clear_event.ensures.step.0 c.clear_event.result _ _ c.requires.idles.first c.requires.idles.count c.clear_event.ensures.step.1 c.clear_event.ensures.step.2
