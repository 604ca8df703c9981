-- Entries of a loop's history by which an event is set and cleared.
use Rattle.std.specs.Prelude.{ℕ, Bool, false, ◌&&◌, ◌==◌}
use Rattle.aio_model.specs.Loop.History.{Entry, SetEvent, ClearEvent}

-- the entry sets the event
abbrev pub sets : ℕ → Entry → Bool
sets i (SetEvent e seat) = i == e
sets i _ = false

-- the entry clears it
abbrev pub clears : ℕ → Entry → Bool
clears i (ClearEvent e was) = i == e
clears i _ = false

-- the entry clears it, and found it set
abbrev pub finds_set : ℕ → Entry → Bool
finds_set i (ClearEvent e was) = (i == e) && was
finds_set i _ = false
