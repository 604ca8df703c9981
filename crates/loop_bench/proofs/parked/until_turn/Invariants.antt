use Rattle.loop_bench.specs.Awake.{IsAwake}
use Rattle.loop_bench.proofs.parked.until_turn.Given as goal

abbrev pub invariant-loop : goal.invariant-loop
invariant-loop g l =
    (goal.iterator-loop g).can_next l.iterator' × (goal.iterator-loop g).is_finite l.iterator' × IsAwake l.table l.home.seat
