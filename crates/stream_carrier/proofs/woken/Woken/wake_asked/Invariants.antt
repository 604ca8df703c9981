use Rattle.std.proofs.Common.{length}
use Rattle.stream_carrier.proofs.woken.Woken.wake_asked.Given as goal

abbrev pub decreases-loop-co : goal.decreases-loop-co
decreases-loop-co l = length l.asked.wakes
