use Rattle.stream_ends.proofs.Carrying.{going_started}
use Rattle.end_tests.proofs.wakes.serve_by_rows.Goals as goal

pub play-requires : goal.play-requires
play-requires g c =
    record { going = going_started g.D.Device.bytes c.args.script.now c.begin_on-lock.result.lock c.begin_on-lock.result.streams.items c.begin_on-lock.ensures.begun.streams }
