use Rattle.lot_pool.specs.Pools.{IsPassOf}
use Rattle.loop_bench.proofs.placings.place.Given as goal
use Rattle.aio_core.specs.Calls.{IsReady}

abbrev pub invariant-loop : goal.invariant-loop
invariant-loop g l = IsPassOf l.pool l.pass × IsReady l.table l.seat
