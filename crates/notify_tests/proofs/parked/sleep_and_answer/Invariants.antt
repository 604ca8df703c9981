use Rattle.std.proofs.Common.{◌≡◌, true}
use Rattle.aio_core.specs.Known.{is_running}
use Rattle.aio_bh.specs.OneShots.{ServesHome}
use Rattle.notify_tests.proofs.parked.sleep_and_answer.Given as goal
use Rattle.aio_bh.specs.Ready.{IsBetweenPolls}

abbrev pub invariant-loop-round : goal.invariant-loop-round
invariant-loop-round g l =
    ServesHome l.table.sizes l.lots.pool l.lots.home × IsBetweenPolls l.table l.home.seat × (is_running l.home.seat.known.sleep ≡ true)
