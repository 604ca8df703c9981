use Rattle.device_loop.proofs.guest.drive.Given as goal
use Rattle.aio_core.specs.Calls.{IsReady}

abbrev pub invariant-loop : goal.invariant-loop
invariant-loop g l = IsReady l.table l.seat
