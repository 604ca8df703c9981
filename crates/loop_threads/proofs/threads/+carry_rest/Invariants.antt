use Rattle.std.proofs.Common.{vec_len}
use Rattle.loop_threads.proofs.threads.+carry_rest.Given as goal

abbrev pub decreases-carry_rest : goal.decreases-carry_rest
decreases-carry_rest g l = vec_len l.waiting
