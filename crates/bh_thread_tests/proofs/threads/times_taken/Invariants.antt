use Rattle.std.proofs.Common.{◌≡◌, None}
use Rattle.aio_core.specs.Calls.{IsSeatOf}
use Rattle.bh_thread_tests.proofs.threads.times_taken.Given as goal

abbrev pub invariant-loop : goal.invariant-loop
invariant-loop l =
    IsSeatOf l.table l.home.seat × (l.home.seat.known.stage.hand ≡ None)
