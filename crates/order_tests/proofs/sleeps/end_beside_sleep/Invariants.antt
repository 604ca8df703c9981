use Rattle.std.proofs.Common.{◌≡◌, true, None}
use Rattle.aio_core.specs.SleepSteps.{is_to_disarm}
use Rattle.aio_core.specs.Calls.{IsSeatOf}
use Rattle.order_tests.proofs.sleeps.end_beside_sleep.Given as goal

abbrev pub invariant-loop : goal.invariant-loop
invariant-loop g l =
    IsSeatOf l.table l.home.seat × (is_to_disarm l.home.seat.known.sleep ≡ true) × (l.home.seat.known.stage.hand ≡ None) × IsSeatOf l.table l.sides.one.seat × IsSeatOf l.table l.sides.other.seat
