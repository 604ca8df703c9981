use Rattle.std.proofs.Common.{refl}
use Rattle.img_streams.proofs.Starting.{started}
use Rattle.img_streams.proofs.stream.Stream+ImageRule+D.of.Goals as goal

pub returns-clause-of : goal.returns-clause-of
returns-clause-of g c lock script can = started g.D.Device.bytes lock script c.args.pass c.args.co c.args.id c.args.room can _ refl
