use Rattle.bell_loop.proofs.LogsGoOn.{Goes-set}
use Rattle.bell_loop.proofs.steps.set.Goals as goal

pub returns-clause-goes : goal.returns-clause-goes
returns-clause-goes c =
    Goes-set c.args.event c.args.seat.now.known c.set_event.new.seat.known c.requires.idles.first c.requires.idles.count c.set_event.ensures.makes
