use Rattle.std.proofs.Common.{◌≡◌}
use Rattle.aio_bh.specs.OneShots.{ServesHome}
use Rattle.co_schedule.specs.Calls.{IsSeatOf}
use Rattle.co_schedule.specs.Homes.{IsIdle}
use Rattle.schedule_bench.proofs.same.rounds.Given as goal
use Rattle.aio_core.specs.Calls.{IsReady}
use Rattle.aio_bh.specs.Ready.{IsBetweenPolls}

abbrev pub invariant-loop : goal.invariant-loop
invariant-loop g l =
    ServesHome l.loop_table.sizes l.lots.pool l.lots.home × IsBetweenPolls l.loop_table l.loop_home.seat × IsReady l.loop_table l.bh_seat × IsIdle l.callback.table.now l.callback.home l.callback.run × IsSeatOf l.table l.seat
