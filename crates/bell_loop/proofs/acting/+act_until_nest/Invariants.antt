use Rattle.std.proofs.Common.{length}
use Rattle.bell_loop.proofs.acting.+act_until_nest.Given as goal

abbrev pub decreases-act_until_nest : goal.decreases-act_until_nest
decreases-act_until_nest g l = length l.todo.now
