use Rattle.stream_ends.proofs.Carrying.{going_started}
use Rattle.stream_ends.proofs.rounds.serve_in_rounds.Goals as goal

pub carry-requires : goal.carry-requires
carry-requires g c = going_started g.D.Device.bytes c.args.script.now c.in_ok-begun.begun.lock c.in_ok-begun.begun.streams.items c.in_ok-begun.ensures.begun.streams
