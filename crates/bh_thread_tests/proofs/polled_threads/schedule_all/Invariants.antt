use Rattle.bh_thread_tests.proofs.polled_threads.schedule_all.Given as goal
use Rattle.aio_core.specs.Calls.{IsReady}

abbrev pub invariant-loop-turn : goal.invariant-loop-turn
invariant-loop-turn g l = IsReady l.table l.seat
