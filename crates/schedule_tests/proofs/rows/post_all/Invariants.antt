use Rattle.std.proofs.Common.{◌≡◌}
use Rattle.co_schedule.specs.Calls.{IsSeatOf}
use Rattle.schedule_tests.proofs.rows.post_all.Given as goal
use Rattle.aio_core.specs.Calls.{IsReady}

abbrev pub invariant-loop-post : goal.invariant-loop-post
invariant-loop-post g l =
    IsReady l.loop_table l.loop_seat × IsSeatOf l.table l.seat × (l.seat.known.first ≡ l.fn.seat.known.first) × (l.seat.known.count ≡ l.fn.seat.known.count)
