use Rattle.co_schedule.specs.Calls.{IsSeatOf}
use Rattle.schedule_fixture.proofs.poster.wake.Given as goal
use Rattle.aio_core.specs.Calls.{IsReady}

abbrev pub invariant-loop : goal.invariant-loop
invariant-loop g l =
    (goal.iterator-loop g).can_next l.iterator' × (goal.iterator-loop g).is_finite l.iterator' × IsReady l.loop_table l.poster.bh_seat × IsSeatOf l.table l.poster.seat
