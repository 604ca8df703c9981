use Rattle.loop_bench.proofs.sleeps.schedule_idle_all.Given as goal
use Rattle.aio_core.specs.Calls.{IsReady}

abbrev pub invariant-loop-bh : goal.invariant-loop-bh
invariant-loop-bh g l = IsReady l.table l.seat
