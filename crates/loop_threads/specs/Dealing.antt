-- How rows are dealt.
use Rattle.std.specs.Prelude.{◌≡◌, ℕ, zero, suc, ◌<◌, ◌≤◌, ◌*◌, List, length, slice_index_or, Vec, vec_len, vec_capacity}
use Rattle.loop_rows.specs.declared.shared.LoopShared.{LoopShared}
use Rattle.loop_rows.specs.declared.seats.Seats.{Seats}
use Rattle.loop_rows.specs.declared.rows.Row.{Row}
use Rattle.loop_rows.specs.Rows.{IsRow, HasNumbers}
use Rattle.loop_threads.specs.Within.{HaveOwn}

-- two, doubled so many times
abbrev pub IsDoubled : ℕ → ℕ → Type 0
IsDoubled zero count = count ≡ 2
IsDoubled (suc times) count = (half : ℕ) × IsDoubled times half × (count ≡ 2 * half)

-- rows of two numbers, from 0 on, in order
abbrev pub ArePairs : {C O : Type 0} → List (LoopShared C O) → List (Row C O) → Type 0
ArePairs {C} {O} shared rows =
    (k : ℕ) (r : Row C O) → k < length rows → IsRow shared (slice_index_or rows k r) × HasNumbers (2 * k) 2 (slice_index_or rows k r)

-- each has nothing in it, and room for so many seats
abbrev pub AreSpares : {C O Z : Type 0} → ℕ → List (Vec (Seats C O) Z) → Type 0
AreSpares {C} {O} {Z} loops spares =
    (k : ℕ) (v : Vec (Seats C O) Z) → k < length spares → (vec_len (slice_index_or spares k v) ≡ 0) × (loops ≤ vec_capacity (slice_index_or spares k v))

-- the seats have seen of both histories just what the others had
pub record SeenAs {C O : Type 0} (whole part : Seats C O) : Type 0 where
  pub seen : part.bottoms.known.seen ≡ whole.bottoms.known.seen
  pub co_seen : part.coroutines.known.seen ≡ whole.coroutines.known.seen

-- and have made just what they own of it
pub record SeesAs {C O : Type 0} (whole part : Seats C O) : Type 0 where
  pub same : SeenAs whole part
  pub own : HaveOwn part

-- of so many loops, each seat of the second row to that of the first
abbrev pub RowSeen : {C O : Type 0} → ℕ → List (Seats C O) → List (Seats C O) → Type 0
RowSeen {C} {O} loops whole part =
    (t : ℕ) (w p : Seats C O) → t < loops → SeenAs (slice_index_or whole t w) (slice_index_or part t p)

abbrev pub RowSees : {C O : Type 0} → ℕ → List (Seats C O) → List (Seats C O) → Type 0
RowSees {C} {O} loops whole part =
    (t : ℕ) (w p : Seats C O) → t < loops → SeesAs (slice_index_or whole t w) (slice_index_or part t p)

-- each of these rows
abbrev pub RowsSee : {C O : Type 0} → ℕ → List (Seats C O) → List (Row C O) → Type 0
RowsSee {C} {O} loops whole rows =
    (k : ℕ) (r : Row C O) → k < length rows → RowSees loops whole (slice_index_or rows k r).seats.items
