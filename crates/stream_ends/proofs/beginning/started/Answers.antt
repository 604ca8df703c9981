use Rattle.stream_ends.proofs.Starting.{has_started}
use Rattle.stream_ends.proofs.beginning.started.Goals as goal

pub returns : goal.returns
returns g c =
    has_started c.args.script.now c.args.lock.now c.requires.bounded c.requires.lock g.D.Device.bytes c.as_slice.result.now c.as_slice.ensures c.args.number c.args.pass c.args.room
    c.requires.known c.requires.new c.requires.room c.of.result c.of.ensures.is c.of.ensures.first (c.of.ensures.of c.args.lock.now c.args.script.now)
