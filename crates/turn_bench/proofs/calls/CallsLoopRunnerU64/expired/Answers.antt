use Rattle.std.proofs.Common.{[], refl}
use Rattle.aio_loop.proofs.Callees.{gives_back_nothing, runs_entry}
use Rattle.turn_bench.proofs.calls.CallsLoopRunnerU64.expired.Goals as goal

pub returns-clause-runs : goal.returns-clause-runs
returns-clause-runs c =
    let armed = c.arm_for_now.ensures.changes in
    let back = gives_back_nothing _ c.args._seat.now.known c.requires.seat.of.sizes c.requires.legal in
    runs_entry _ _ c.args.self.now _ c.args.side.now _ c.args._seat.now.known _ [] [] armed.0 back refl armed.1 armed.2 refl
