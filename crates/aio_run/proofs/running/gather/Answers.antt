use Rattle.aio_run.proofs.Berthed.{berthed_none}
use Rattle.aio_run.proofs.running.gather.Goals as goal

pub end_loops-requires-clause-berths : goal.end_loops-requires-clause-berths
end_loops-requires-clause-berths g c =
    berthed_none g.D.Device.bytes c.args.script.now c.args.lock.now c.args.berths.items c.requires.berths
