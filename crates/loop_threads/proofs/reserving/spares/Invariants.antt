use Rattle.std.proofs.Common.{◌≡◌, ◌≤◌, vec_len, vec_capacity}
use Rattle.loop_threads.specs.Dealing.{AreSpares}
use Rattle.loop_threads.proofs.reserving.spares.Given as goal

abbrev pub invariant-loop : goal.invariant-loop
invariant-loop g l =
    (vec_len l.spares ≡ l.counter) × (31 ≤ vec_capacity l.spares) × AreSpares l.loops l.spares.items
