use Rattle.std.proofs.Common.{◌≡◌, ◌≤◌, None, replicate, vec_len, vec_capacity}
use Rattle.aio_run.proofs.opening.empty_berths.Given as goal

abbrev pub invariant-loop : goal.invariant-loop
invariant-loop g l =
    (l.berths.items ≡ replicate l.counter None) × (vec_len l.berths ≡ l.counter) × (l.count ≤ vec_capacity l.berths)
