use Rattle.std.proofs.Common.{◌≡◌}
use Rattle.aio_bh.specs.OneShots.{ServesHome}
use Rattle.co_schedule.specs.Homes.{IsIdle}
use Rattle.schedule_bench.proofs.other.poll_all.Given as goal
use Rattle.aio_bh.specs.Ready.{IsBetweenPolls}

abbrev pub invariant-loop : goal.invariant-loop
invariant-loop g l =
    ServesHome l.loop_table.sizes l.lots.pool l.lots.home × IsBetweenPolls l.loop_table l.loop_home.seat × IsIdle l.callback.table.now l.callback.home l.callback.run
