use Rattle.std.proofs.Common.{[], ◌∷◌, refl}
use Rattle.aio_loop.proofs.Callees.{changes_timers}
use Rattle.device_loop.proofs.device.rearm.Goals as goal

pub returns-then-on-clause-changes : goal.returns-then-on-clause-changes
returns-then-on-clause-changes c =
    let armed = c.arm.ensures in
    (_ ∷ [], (refl, refl), changes_timers (_ ∷ []) c.args.side.now _ armed.stands armed.room refl)
