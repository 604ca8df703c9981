use Rattle.loop_bench.specs.Awake.{IsAwake}
use Rattle.loop_bench.proofs.sleeps.commit_all.Given as goal

abbrev pub invariant-loop : goal.invariant-loop
invariant-loop l = IsAwake l.table l.home.seat
