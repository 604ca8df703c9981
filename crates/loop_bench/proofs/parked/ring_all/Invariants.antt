use Rattle.loop_bench.proofs.parked.ring_all.Given as goal
use Rattle.aio_core.specs.Calls.{IsReady}

abbrev pub invariant-loop : goal.invariant-loop
invariant-loop l = IsReady l.table l.seat
