use Rattle.lot_pool.specs.Pools.{IsPassOf}
use Rattle.loop_bench.proofs.placings.place_all.Given as goal
use Rattle.aio_core.specs.Calls.{IsReady}

abbrev pub invariant-loop-job : goal.invariant-loop-job
invariant-loop-job g l = IsPassOf l.pool l.pass × IsReady l.table l.seat
