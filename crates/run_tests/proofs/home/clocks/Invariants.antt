use Rattle.std.proofs.Common.{◌≡◌, vec_len}
use Rattle.run_tests.proofs.home.clocks.Given as goal

abbrev pub invariant-loop-k : goal.invariant-loop-k
invariant-loop-k l = vec_len l.clocks ≡ l.k
