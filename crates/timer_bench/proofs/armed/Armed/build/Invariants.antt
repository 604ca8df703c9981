use Rattle.std.proofs.Common.{◌≡◌, ◌-◌}
use Rattle.timer_bench.proofs.armed.Armed.build.Given as goal

abbrev pub invariant-loop-id : goal.invariant-loop-id
invariant-loop-id l = l.timers.room ≡ l.room

abbrev pub decreases-loop-id : goal.decreases-loop-id
decreases-loop-id l = l.timers.room - l.timers.made
