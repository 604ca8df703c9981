use Rattle.std.proofs.Common.{◌≡◌, vec_len}
use Rattle.aioloops.proofs.clocks.Given as goal

abbrev pub invariant-loop : goal.invariant-loop
invariant-loop l = vec_len l.clocks ≡ l.counter
