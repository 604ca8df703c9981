use Rattle.std.proofs.Common.{◌≡◌}
use Rattle.co_waits.proofs.tests.queued.Given as goal

abbrev pub invariant-loop : goal.invariant-loop
invariant-loop g l = l.queue.room ≡ 64
