use Rattle.std.proofs.Common.{◌≡◌, ◌≤◌, vec_len, vec_capacity}
use Rattle.loop_threads.proofs.reserving.flags.Given as goal

abbrev pub invariant-loop : goal.invariant-loop
invariant-loop l = (vec_len l.flags ≡ l.counter) × (l.count ≤ vec_capacity l.flags)
