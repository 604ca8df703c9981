use Rattle.std.proofs.Common.{sym}
use Rattle.aio_run.proofs.Berthed.{berthed_set}
use Rattle.aio_run.proofs.returning.berth.Goals as goal

pub returns : goal.returns
returns g c =
    let stopped = c.has_stopped.ensures c.if-not-has_stopped.false in
    record {
      berths = berthed_set g.D.Device.bytes c.args.script.now c.args.lock.now c.args.berths.now.items c.number-number.result c.args.stream stopped.0 c.requires.berths
          (record { going = record { of = c.requires.of; number_is = sym c.number-number.ensures }; gone = stopped.1 });
    }
