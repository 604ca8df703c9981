use Rattle.std.proofs.Common.{[], refl}
use Rattle.aio_loop.proofs.Callees.{runs_entry}
use Rattle.turn_tests.proofs.responder.ResponderLoopRunnerU64.ready.Goals as goal

pub returns-clause-runs : goal.returns-clause-runs
returns-clause-runs g c =
    let removed = c.remove.ensures.changes in
    let scheduled = c.schedule.ensures.made in
    runs_entry _ _ c.args.self.now _ c.args.side.now _ c.args.seat.now.known _ scheduled.0 removed.0 [] scheduled.1 removed.1 refl removed.2 refl
