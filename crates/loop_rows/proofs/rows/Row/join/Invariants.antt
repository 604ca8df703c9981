use Rattle.std.proofs.Common.{◌≡◌, ◌<◌, ◌≤◌, length, ℕ, vec_len, slice_index_or}
use Rattle.loop_rows.specs.declared.seats.Seats.{Seats}
use Rattle.loop_rows.specs.Rows.{UnitesEach}
use Rattle.loop_rows.proofs.rows.Row.join.Given as goal

abbrev pub invariant-loop-seat : goal.invariant-loop-seat
invariant-loop-seat g l =
    let left = vec_len l.seats in
    (length l.self.seats.items ≡ length l.shared)
    × (left ≤ length l.shared)
    × (l.self.first ≡ l.fn.self.first)
    × (l.self.count ≡ l.fn.self.count)
    × (l.count ≡ l.fn.other.count)
    × ((k : ℕ) (d : Seats _ _) → k < left → slice_index_or l.self.seats.items k d ≡ slice_index_or l.fn.self.seats.items k d)
    × ((k : ℕ) (d : Seats _ _) → k < left → slice_index_or l.seats.items k d ≡ slice_index_or l.fn.other.seats.items k d)
    × UnitesEach left (length l.shared) l.shared l.fn.self.seats.items l.fn.other.seats.items l.self.seats.items

abbrev pub decreases-loop-seat : goal.decreases-loop-seat
decreases-loop-seat g l = vec_len l.seats
