use Rattle.std.proofs.Common.{true, ◌∙◌}
use Rattle.device_loop.proofs.Kept.{one_turn_more}
use Rattle.device_loop.proofs.running.turn_until_done.Goals as goal

pub loop-preserved : goal.loop-preserved
loop-preserved g c =
    let so_far = c.loop.invariant in
    let one = c.turn.ensures in
    let lots = rw so_far.2 at (rw so_far.3 at one.lots) in
    let home = rw so_far.2 at one.home in
    let turns = rw so_far.2 at (rw so_far.3 at one.turns) in (
      tt,
      tt,
      one.same.0 ∙ so_far.2,
      one.same.1 ∙ so_far.3,
      one.can_run,
      lots,
      home,
      one.walking,
      one_turn_more _ _ _ _ _ _ so_far.8 (record { block = true; turned = c.turn.result; time = _; time_after = _; pass = _; pass_after = _; turns = turns }),
    )
