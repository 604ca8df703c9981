use Rattle.std.proofs.Common.{refl}
use Rattle.aio_loop.proofs.Callees.{runs_alone}
use Rattle.turn_bench.proofs.calls.CallsLoopRunnerU64.ready.Goals as goal

pub returns-clause-runs : goal.returns-clause-runs
returns-clause-runs c =
    runs_alone _ _ c.args.self.now _ c.args._side.now c.args._seat.now.known _ c.requires.seat.of.sizes c.requires.legal refl
