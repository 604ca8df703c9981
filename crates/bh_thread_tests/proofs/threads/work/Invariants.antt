use Rattle.aio_bh.specs.Ready.{ComesBack}
use Rattle.bh_thread_tests.proofs.threads.work.Given as goal

abbrev pub invariant-loop-turn : goal.invariant-loop-turn
invariant-loop-turn g l = ComesBack l.fn.table l.fn.seat l.seat
