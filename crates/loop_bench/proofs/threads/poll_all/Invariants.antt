use Rattle.std.proofs.Common.{◌≡◌}
use Rattle.aio_bh.specs.OneShots.{ServesHome}
use Rattle.loop_bench.proofs.threads.poll_all.Given as goal
use Rattle.aio_bh.specs.Ready.{IsBetweenPolls}

abbrev pub invariant-loop : goal.invariant-loop
invariant-loop g l =
    ServesHome l.table.sizes l.lots.pool l.lots.home × IsBetweenPolls l.table l.home.seat
