use Rattle.std.proofs.Common.{arith}
use Rattle.bell_loop.proofs.Counting.{PlacesTag-of}
use Rattle.bell_loop.proofs.steps.try_once.Goals as goal

pub returns-in-Ok-clause-placed : goal.returns-in-Ok-clause-placed
returns-in-Ok-clause-placed g c =
    let placed = c.in-Ok.ensures.placed in
    PlacesTag-of c.args.table.now.sizes c.args.tag _ _ placed.lot placed.places.places.flags c.requires.idles.first c.requires.idles.of.sizes placed.places.places.first placed.stands c.args.living.now c.saturating_add.result
    (λ few. omega (arith, c.saturating_add.ensures, c.requires.few, few))
