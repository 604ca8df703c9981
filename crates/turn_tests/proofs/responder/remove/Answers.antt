use Rattle.std.proofs.Common.{[], ◌∷◌, refl}
use Rattle.aio_loop.proofs.Callees.{changes_handlers}
use Rattle.turn_tests.proofs.responder.remove.Goals as goal

pub returns-in-Some-clause-changes : goal.returns-in-Some-clause-changes
returns-in-Some-clause-changes c =
    let removed = c.remove.ensures in
    (_ ∷ [], (refl, refl), changes_handlers (_ ∷ []) c.args.side.now _ removed.stands removed.walking removed.room refl)
