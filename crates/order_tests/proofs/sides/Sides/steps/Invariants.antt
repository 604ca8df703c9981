use Rattle.aio_core.specs.Calls.{IsSeatOf}
use Rattle.order_tests.proofs.sides.Sides.steps.Given as goal

abbrev pub invariant-loop : goal.invariant-loop
invariant-loop l = IsSeatOf l.table l.sides.one.seat × IsSeatOf l.table l.sides.other.seat
