-- What a seat that was joined into another has made, in what the other has seen.
use Rattle.std.specs.Prelude.{◌≡◌, ℕ, ◌<◌, ◌≤◌, List, slice_index_or}
use Rattle.table_seats.specs.Seats.{IsPart, own_entries}
use Rattle.aio_model.specs.Loop.History.{History}
use Rattle.aio_model.specs.Loop.Lists.{seat_of}
use Rattle.aio_core.specs.Known.{numbers_of}
use Rattle.aio_model.specs.Coroutines.History.{History as CoHistory, seat_of as co_seat_of}
use Rattle.co_schedule.specs.Known.{numbers_of as co_numbers_of}
use Rattle.loop_rows.specs.declared.seats.Seats.{Seats}
use Rattle.loop_threads.specs.declared.parts.Part.{Part}

-- What the first have seen of both histories is a part of what the second have seen, in which just their own entries stand under their
-- numbers.
pub record IsSeenWithin {C O : Type 0} (part whole : Seats C O) : Type 0 where
  pub seen : IsPart part.bottoms.known.seen whole.bottoms.known.seen
  pub made : own_entries seat_of (numbers_of part.bottoms.known) whole.bottoms.known.seen ≡ part.bottoms.known.mine
  pub co_seen : IsPart part.coroutines.known.seen whole.coroutines.known.seen
  pub co_made : own_entries co_seat_of (co_numbers_of part.coroutines.known) whole.coroutines.known.seen ≡ part.coroutines.known.mine

-- of so many loops, each seat of the first row is within that of the second
abbrev pub RowWithin : {C O : Type 0} → ℕ → List (Seats C O) → List (Seats C O) → Type 0
RowWithin {C} {O} loops part whole =
    (t : ℕ) (s w : Seats C O) → t < loops → IsSeenWithin (slice_index_or part t s) (slice_index_or whole t w)

-- the same for the rows of these parts
abbrev pub RowsWithin : {C W O : Type 0} → ℕ → ℕ → ℕ → List (Part C W O) → List (Seats C O) → Type 0
RowsWithin {C} {W} {O} low high loops parts whole =
    (j : ℕ) (p : Part C W O) → low ≤ j → j < high → RowWithin loops (slice_index_or parts j p).row.seats.items whole

-- the seats have made just what they own of what they have seen
pub record HaveOwn {C O : Type 0} (seats : Seats C O) : Type 0 where
  pub own : seats.bottoms.known.mine ≡ own_entries seat_of (numbers_of seats.bottoms.known) seats.bottoms.known.seen
  pub co_own : seats.coroutines.known.mine ≡ own_entries co_seat_of (co_numbers_of seats.coroutines.known) seats.coroutines.known.seen

abbrev pub OwnEach : {C O : Type 0} → ℕ → List (Seats C O) → Type 0
OwnEach {C} {O} loops seats = (t : ℕ) (s : Seats C O) → t < loops → HaveOwn (slice_index_or seats t s)

-- what the seats have seen of both histories is a part of these whole ones, in which just their own entries stand under their numbers
pub record StandsIn {C O : Type 0} (part : Seats C O) (calls : History) (coroutines : CoHistory) : Type 0 where
  pub seen : IsPart part.bottoms.known.seen calls
  pub made : own_entries seat_of (numbers_of part.bottoms.known) calls ≡ part.bottoms.known.mine
  pub co_seen : IsPart part.coroutines.known.seen coroutines
  pub co_made : own_entries co_seat_of (co_numbers_of part.coroutines.known) coroutines ≡ part.coroutines.known.mine
