use Rattle.notify_tests.proofs.parked.wake_all.Given as goal
use Rattle.aio_core.specs.Calls.{IsReady}

abbrev pub invariant-loop-round : goal.invariant-loop-round
invariant-loop-round g l = IsReady l.table l.seat
