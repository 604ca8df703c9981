use Rattle.std.proofs.Common.{length}
use Rattle.bell_loop.proofs.acting.+asks.Given as goal

abbrev pub decreases-asks : goal.decreases-asks
decreases-asks l = length l.todo.now
