use Rattle.std.proofs.Common.{◌≡◌}
use Rattle.lot_pool.specs.Pools.{IsPassOf, IsHomeOf}
use Rattle.aio_bh.specs.OneShots.{IsPoolFor}
use Rattle.bh_tests.proofs.placing_callbacks.poll_each.Given as goal
use Rattle.aio_bh.specs.Ready.{IsBetweenPolls}

abbrev pub invariant-loop-poll : goal.invariant-loop-poll
invariant-loop-poll g l =
    IsPoolFor l.table.sizes l.placing.pool.now × IsPassOf l.placing.pool.now l.placing.pass × IsHomeOf l.pool l.lots × IsBetweenPolls l.table l.home.seat
