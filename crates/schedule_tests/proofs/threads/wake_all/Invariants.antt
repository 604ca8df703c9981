use Rattle.co_schedule.specs.Calls.{IsSeatOf}
use Rattle.schedule_tests.proofs.threads.wake_all.Given as goal
use Rattle.aio_core.specs.Calls.{IsReady}

abbrev pub invariant-loop-turn : goal.invariant-loop-turn
invariant-loop-turn g l =
    IsReady l.loop_table l.poster.bh_seat × IsSeatOf l.table l.poster.seat
