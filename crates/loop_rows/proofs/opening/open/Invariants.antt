use Rattle.std.proofs.Common.{◌≡◌, ◌≤◌, vec_len, vec_capacity}
use Rattle.loop_rows.specs.Rows.{EachAt}
use Rattle.loop_rows.specs.Opening.{HomesEach, NewEach}
use Rattle.loop_rows.proofs.opening.open.Given as goal

abbrev pub ghost-open_loop : goal.ghost-open_loop
ghost-open_loop g a = g.origin

abbrev pub invariant-loop : goal.invariant-loop
invariant-loop g l =
    (vec_len l.shared ≡ l.counter)
    × (vec_len l.homes ≡ l.counter)
    × (vec_len l.seats ≡ l.counter)
    × (l.loops ≤ vec_capacity l.shared)
    × (l.loops ≤ vec_capacity l.homes)
    × (l.loops ≤ vec_capacity l.seats)
    × EachAt l.counter 0 64 l.shared.items l.seats.items
    × HomesEach l.counter l.shared.items l.homes.items
    × NewEach l.counter l.coroutines g.origin l.shared.items l.homes.items l.seats.items
