-- A row: one seat of each table.
use Rattle.std.specs.Prelude.{◌≡◌, ℕ, ◌<◌, ◌≤◌, ◌+◌, List, length, slice_index_or}
use Rattle.aio_core.specs.Splitting.{front_known, back_known}
use Rattle.aio_core.specs.Joining.{joined_known, told_of, IsJoined}
use Rattle.aio_model.specs.Coroutines.History.{seat_of, IsLegal}
use Rattle.table_seats.specs.Calls.{IsJoined as IsCoJoined}
use Rattle.co_schedule.specs.Seating.{front_known as front_co, back_known as back_co, joined_known as joined_co, told_by}
use Rattle.co_schedule.specs.Calls.{IsSeatOf as IsCoSeatOf}
use Rattle.loop_rows.specs.declared.shared.LoopShared.{LoopShared}
use Rattle.loop_rows.specs.declared.seats.Seats.{Seats}
use Rattle.loop_rows.specs.declared.rows.Row.{Row}
use Rattle.aio_core.specs.Calls.{IsReady}

-- the seats are of the loop's tables, at rest, and own these numbers
pub record AreSeatsOf {C O : Type 0} (first count : ℕ) (shared : LoopShared C O) (seats : Seats C O) : Type 0 where
  pub bottoms : IsReady shared.bottoms seats.bottoms
  pub coroutines : IsCoSeatOf shared.coroutines seats.coroutines
  pub first_is : seats.bottoms.known.first ≡ first
  pub count_is : seats.bottoms.known.count ≡ count
  pub co_first_is : seats.coroutines.known.first ≡ first
  pub co_count_is : seats.coroutines.known.count ≡ count

-- so many numbers stay, and the others go to a new seat
pub record Divides {C O : Type 0} (half : ℕ) (shared : LoopShared C O) (before after other : Seats C O) : Type 0 where
  pub stays : AreSeatsOf before.bottoms.known.first half shared after
  pub goes : AreSeatsOf (before.bottoms.known.first + half) half shared other
  pub front : after.bottoms.known ≡ front_known half before.bottoms.known
  pub back : other.bottoms.known ≡ back_known half before.bottoms.known
  pub co_front : after.coroutines.known ≡ front_co half before.coroutines.known
  pub co_back : other.coroutines.known ≡ back_co half before.coroutines.known

-- the numbers of both are one seat's, and what either has seen is a part of what it has seen
pub record Unites {C O : Type 0} (shared : LoopShared C O) (before other after : Seats C O) : Type 0 where
  pub is_at : AreSeatsOf before.bottoms.known.first (before.bottoms.known.count + other.bottoms.known.count) shared after
  pub both : after.bottoms.known ≡ joined_known before.bottoms.known other.bottoms.known
  pub parts : IsJoined shared.bottoms.sizes (told_of before.bottoms.known other.bottoms.known) after.bottoms.known.seen
  pub co_both : after.coroutines.known ≡ joined_co before.coroutines.known other.coroutines.known
  pub co_parts : IsCoJoined seat_of (IsLegal shared.coroutines.coroutines) (told_by before.coroutines.known other.coroutines.known) after.coroutines.known.seen

-- each place below so many has this
abbrev pub EachAt : {C O : Type 0} → ℕ → ℕ → ℕ → List (LoopShared C O) → List (Seats C O) → Type 0
EachAt {C} {O} n first count shared seats =
    (k : ℕ) (t : LoopShared C O) (s : Seats C O) → k < n → AreSeatsOf first count (slice_index_or shared k t) (slice_index_or seats k s)

-- one seat of each table, each with these numbers
pub record IsRow {C O : Type 0} (shared : List (LoopShared C O)) (row : Row C O) : Type 0 where
  pub long : length row.seats.items ≡ length shared
  pub below : row.first + row.count ≤ 64
  pub each : EachAt (length shared) row.first row.count shared row.seats.items

pub record HasNumbers {C O : Type 0} (first count : ℕ) (row : Row C O) : Type 0 where
  pub first_is : row.first ≡ first
  pub count_is : row.count ≡ count

-- at each of the places from one on, below another
abbrev pub DividesEach : {C O : Type 0} → ℕ → ℕ → List (LoopShared C O) → List (Seats C O) → List (Seats C O) → List (Seats C O) → Type 0
DividesEach {C} {O} n half shared before after other =
    (k : ℕ) (t : LoopShared C O) (b a o : Seats C O) → k < n → Divides half (slice_index_or shared k t) (slice_index_or before k b) (slice_index_or after k a) (slice_index_or other k o)

abbrev pub UnitesEach : {C O : Type 0} → ℕ → ℕ → List (LoopShared C O) → List (Seats C O) → List (Seats C O) → List (Seats C O) → Type 0
UnitesEach {C} {O} low high shared before other after =
    (k : ℕ) (t : LoopShared C O) (b o a : Seats C O) → low ≤ k → k < high → Unites (slice_index_or shared k t) (slice_index_or before k b) (slice_index_or other k o) (slice_index_or after k a)

-- half of the numbers of each seat stay, and the others go to a row of their own
pub record DividesRow {C O : Type 0} (half : ℕ) (shared : List (LoopShared C O)) (before after other : Row C O) : Type 0 where
  pub stays : IsRow shared after
  pub stay : HasNumbers before.first half after
  pub goes : IsRow shared other
  pub go : HasNumbers (before.first + half) half other
  pub each : DividesEach (length shared) half shared before.seats.items after.seats.items other.seats.items

-- each seat has the numbers of both
pub record UnitesRow {C O : Type 0} (shared : List (LoopShared C O)) (before other after : Row C O) : Type 0 where
  pub is_row : IsRow shared after
  pub numbers : HasNumbers before.first (before.count + other.count) after
  pub each : UnitesEach 0 (length shared) shared before.seats.items other.seats.items after.seats.items
