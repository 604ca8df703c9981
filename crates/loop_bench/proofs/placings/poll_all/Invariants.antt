use Rattle.std.proofs.Common.{◌≡◌}
use Rattle.lot_pool.specs.Pools.{IsHomeOf}
use Rattle.loop_bench.proofs.placings.poll_all.Given as goal
use Rattle.aio_bh.specs.Ready.{IsBetweenPolls}

abbrev pub invariant-loop : goal.invariant-loop
invariant-loop g l =
    IsHomeOf l.pool l.pass × IsBetweenPolls l.table l.home.seat
