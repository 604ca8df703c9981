use Rattle.std.proofs.Common.{refl}
use Rattle.shared_tests.proofs.Seated.{all_built}
use Rattle.shared_tests.proofs.table.Table.build.Goals as goal

pub invariant_of-result : goal.invariant_of-result
invariant_of-result g c =
    all_built c.in_ok-image.image _ c.args.requests.now c.in-Ok.players.items c.in_ok-image.ensures.ok refl refl refl c.in-Ok.ensures
