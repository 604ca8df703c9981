use Rattle.stream_ends.proofs.Carrying.{going_started}
use Rattle.stream_carrier.proofs.serving.carry_all.Goals as goal

pub carry_woken-tally-requires : goal.carry_woken-tally-requires
carry_woken-tally-requires g c = record { going = going_started g.D.Device.bytes c.args.script.now c.args.begun.lock c.args.begun.streams.items c.requires.begun.streams }
