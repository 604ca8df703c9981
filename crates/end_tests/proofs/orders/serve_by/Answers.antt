use Rattle.stream_ends.proofs.Carrying.{going_started}
use Rattle.end_tests.proofs.orders.serve_by.Goals as goal

pub resume_by-requires : goal.resume_by-requires
resume_by-requires g c =
    record { going = going_started g.D.Device.bytes c.args.script.now c.begin_on-lock.result.lock c.begin_on-lock.result.streams.items c.begin_on-lock.ensures.begun.streams }
