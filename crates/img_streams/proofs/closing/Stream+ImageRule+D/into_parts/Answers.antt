use Rattle.std.proofs.Common.{map, sym, subst}
use Rattle.img_streams.specs.Streams.{source}
use Rattle.img_streams.specs.Retired.{ArePartsOf}
use Rattle.img_streams.proofs.Settling.{parts_of_retired}
use Rattle.img_streams.proofs.closing.Stream+ImageRule+D.into_parts.Goals as goal

pub returns-clause-retired : goal.returns-clause-retired
returns-clause-retired g c lock script is gone =
    subst (λ p. ArePartsOf g.D.Device.bytes lock script.lines script.image c.args.self.id c.args.self.co.co (map (λ buffer. buffer.items) c.apart.result.1.items) p) (sym c.apart.ensures.pass)
    (subst (λ (l : _). ArePartsOf g.D.Device.bytes lock script.lines script.image c.args.self.id c.args.self.co.co (map (λ buffer. buffer.items) l.items) c.args.self.pass) (sym c.apart.ensures.filled)
    (parts_of_retired g.D.Device.bytes c.args.self (source lock script) is gone))
