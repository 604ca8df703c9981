use Rattle.std.proofs.Common.{[], ◌∷◌, refl}
use Rattle.aio_loop.proofs.Callees.{changes_timers}
use Rattle.turn_bench.proofs.calls.arm_for_now.Goals as goal

pub returns-clause-changes : goal.returns-clause-changes
returns-clause-changes c =
    let armed = c.arm.ensures in
    (_ ∷ [], (refl, refl), changes_timers (_ ∷ []) c.args.side.now _ armed.stands armed.room refl)
