use Rattle.std.proofs.Common.{◌≡◌}
use Rattle.aio_model.specs.Loop.InFlight.{Announced}
use Rattle.aio_core.specs.Calls.{IsSeatOf}
use Rattle.loop_bench.proofs.threads.push_in_the_end.Given as goal

abbrev pub invariant-loop : goal.invariant-loop
invariant-loop g l = IsSeatOf l.table l.seat × (l.seat.known.phase ≡ Announced l.owed)
