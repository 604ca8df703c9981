use Rattle.std.proofs.Common.{false}
use Rattle.aio_loop.proofs.Logged.{kept_by_turn}
use Rattle.device_loop.specs.Devices.{DeviceIsDone}
use Rattle.device_loop.proofs.Kept.{works_done, one_turn_more}
use Rattle.device_loop.proofs.running.run_until_done.Goals as goal

pub returns-clause-turns : goal.returns-clause-turns
returns-clause-turns g c =
    let before = c.turn_until_done.ensures in
    let turns = rw before.same.0 at (rw before.same.1 at c.turn.ensures.turns) in
    one_turn_more _ _ _ _ _ _ before.turns (record { block = false; turned = c.turn.result; time = _; time_after = _; pass = _; pass_after = _; turns = turns })

pub returns-clause-done : goal.returns-clause-done
returns-clause-done g c =
    kept_by_turn _ (λ d. DeviceIsDone d.counts) (λ x y e works. works_done x.counts y.counts e works) _ _ _ _ _ _ _ _ _ _ c.turn.ensures.turns c.turn_until_done.ensures.done
