use Rattle.std.proofs.Common.{◌≡◌, ◌≤◌, length}
use Rattle.std.specs.Vec.{vec_capacity}
use Rattle.co_state.proofs.directory.Directory.build.Given as goal

abbrev pub invariant-loop : goal.invariant-loop
invariant-loop l = (length l.spares.items ≡ l.counter) × (l.fn.room ≤ vec_capacity l.spares)
