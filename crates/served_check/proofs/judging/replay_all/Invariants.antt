use Rattle.served_check.proofs.Serving.{SoFar}
use Rattle.served_check.proofs.judging.replay_all.Given as goal

abbrev pub invariant-loop-placed : goal.invariant-loop-placed
invariant-loop-placed l = SoFar l.size l.lines l.served l.initial.bytes l.placed-index l.cursors l.bytes
