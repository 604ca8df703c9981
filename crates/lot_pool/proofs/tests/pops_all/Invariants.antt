use Rattle.lot_pool.specs.Pools.{IsPassOf}
use Rattle.lot_pool.proofs.tests.pops_all.Given as goal

abbrev pub invariant-loop-lot : goal.invariant-loop-lot
invariant-loop-lot g l = IsPassOf l.pool l.pass
