use Rattle.std.proofs.Common.{[], refl}
use Rattle.aio_loop.proofs.Callees.{gives_back_nothing, runs_entry}
use Rattle.device_loop.proofs.device.DeviceLoopRunnerUnit.expired.Goals as goal

pub returns-clause-runs : goal.returns-clause-runs
returns-clause-runs c =
    let armed = c.rearm.ensures.changes in
    let back = gives_back_nothing _ c.args._seat.now.known c.requires.seat.of.sizes c.requires.legal in
    runs_entry _ _ c.args.self.now _ c.args.side.now _ c.args._seat.now.known _ [] [] armed.0 back refl armed.1 armed.2 (record { counts = c.tick.ensures; made_none = refl; same_handlers = refl })
