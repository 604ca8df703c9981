use Rattle.std.proofs.Common.{[], ◌∷◌, refl}
use Rattle.aio_loop.proofs.Callees.{changes_timers}
use Rattle.turn_tests.proofs.responder.arm.Goals as goal

pub returns-in-Some-clause-changes : goal.returns-in-Some-clause-changes
returns-in-Some-clause-changes c =
    let armed = c.arm.ensures in
    (_ ∷ [], (refl, refl), changes_timers (_ ∷ []) c.args.side.now _ armed.stands armed.room refl)
