-- What a seat has seen of the one history of its loop, which entries are its own, and when a call stands there.
use Rattle.std.specs.Prelude.{ℕ, Bool}
pub use Rattle.table_seats.specs.Seats.{Numbers, owns, home, everyone}
use Rattle.table_seats.specs.Seats as seats
use Rattle.table_seats.specs.Calls as calls
use Rattle.aio_model.specs.Loop.History.{Sizes, History}
use Rattle.aio_model.specs.Loop.Lists.{seat_of}
use Rattle.aio_model.specs.Loop.Legal.{IsLegal}

-- the entries made under a number that passes
abbrev pub entries_by : (ℕ → Bool) → History → History
entries_by test history = seats.entries_by seat_of test history

abbrev pub entries_of : ℕ → History → History
entries_of number history = seats.entries_of seat_of number history

abbrev pub own_entries : Numbers → History → History
own_entries numbers history = seats.own_entries seat_of numbers history

-- a call under this number made just these entries: what was seen goes on, is legal, and has no other of this number
abbrev pub StandsInHistory : Sizes → ℕ → History → History → History → History → History → Type 0
StandsInHistory sizes number entries seen mine seen_after mine_after =
    calls.StandsInHistory seat_of (IsLegal sizes) number entries seen mine seen_after mine_after

-- a call other than a poll or a turn
abbrev pub StandsAtTheEnd : Sizes → ℕ → History → History → History → History → History → Type 0
StandsAtTheEnd sizes number entries seen mine seen_after mine_after =
    calls.StandsAtTheEnd seat_of (IsLegal sizes) number entries seen mine seen_after mine_after
