use Rattle.loop_bench.specs.Awake.{IsAwake}
use Rattle.loop_bench.proofs.parked.take_turns.Given as goal
use Rattle.aio_core.specs.Calls.{IsReady}

abbrev pub invariant-loop : goal.invariant-loop
invariant-loop g l =
    IsAwake l.table l.home.seat × IsReady l.other l.seat
