use Rattle.std.proofs.Common.{◌≡◌, ◌≤◌, length, ℕ, vec_len, vec_capacity, slice_index_or}
use Rattle.loop_rows.specs.declared.seats.Seats.{Seats}
use Rattle.loop_rows.specs.Rows.{DividesEach}
use Rattle.loop_rows.proofs.rows.Row.split.Given as goal

abbrev pub invariant-loop-t : goal.invariant-loop-t
invariant-loop-t g l =
    (length l.self.seats.items ≡ length l.shared)
    × (l.self.first ≡ l.fn.self.first)
    × (vec_len l.seats ≡ l.t)
    × (length l.shared ≤ vec_capacity l.seats)
    × ((k : ℕ) (d : Seats _ _) → l.t ≤ k → slice_index_or l.self.seats.items k d ≡ slice_index_or l.fn.self.seats.items k d)
    × DividesEach l.t l.half l.shared l.fn.self.seats.items l.self.seats.items l.seats.items
