use Rattle.std.proofs.Common.{vec_len}
use Rattle.loop_threads.proofs.ending.+end_rest.Given as goal

abbrev pub decreases-end_rest : goal.decreases-end_rest
decreases-end_rest g l = vec_len l.rest.shared
