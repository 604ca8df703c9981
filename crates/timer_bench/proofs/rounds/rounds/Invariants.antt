use Rattle.std.proofs.Common.{◌≡◌}
use Rattle.timer_bench.proofs.rounds.rounds.Given as goal

abbrev pub invariant-loop-number : goal.invariant-loop-number
invariant-loop-number g l = l.armed.timers.room ≡ l.size
