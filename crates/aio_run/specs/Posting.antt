-- What the posts of a script's streams make on its loops.
use Rattle.std.specs.Prelude.{◌≡◌, ℕ, zero, suc, ◌<◌, ◌==◌, true, if◌then◌else◌, List, [], ◌∷◌, length, slice_index, slice_index_or}
use Rattle.aio_model.specs.declared.coroutines.causes.Cause.TheVariants.{Begin}
use Rattle.table_seats.specs.Seats.{Numbers, own_entries}
use Rattle.aio_model.specs.Coroutines.History.{Schedule, Push, History, seat_of}
use Rattle.co_schedule.specs.Known.{numbers_of}
use Rattle.aio_model.specs.Loop.Laws.{some_entry}
use Rattle.loop_rows.specs.Opening.{loop_sizes}
use Rattle.loop_rows.specs.declared.seats.Seats.{Seats}
use Rattle.loop_rows.specs.declared.shared.LoopShared.{LoopShared}
use Rattle.aio_run.specs.Setting.{sets}

-- Of the first so many coroutines each was scheduled and pushed on the loop that is its home, with its state, by the seat of number 0.
-- These are the entries on one loop, newest first.
abbrev pub begun_on : ℕ → List ℕ → ℕ → History
begun_on zero homes loop = []
begun_on (suc co) homes loop =
    if slice_index homes co == loop then Push co 0 ∷ Schedule co Begin true 0 ∷ begun_on co homes loop else begun_on co homes loop

-- the seats of so many loops have made just these entries of coroutines
abbrev pub HaveBegun : {C O : Type 0} → ℕ → List ℕ → ℕ → List (Seats C O) → Type 0
HaveBegun {C} {O} many homes loops seats =
    (t : ℕ) (s : Seats C O) → t < loops → (slice_index_or seats t s).coroutines.known.mine ≡ begun_on many homes t

-- the numbers of all seats
abbrev pub all_numbers : Numbers
all_numbers = record { first = 0; count = 64 }

-- In what these seats have seen, all seats together have made just these entries of coroutines.
abbrev pub HaveBegunAlone : {C O : Type 0} → ℕ → List ℕ → ℕ → List (Seats C O) → Type 0
HaveBegunAlone {C} {O} many homes loops seats =
    (t : ℕ) (s : Seats C O) → t < loops → own_entries seat_of all_numbers (slice_index_or seats t s).coroutines.known.seen ≡ begun_on many homes t

-- In what these seats have seen of their coroutines, nobody else made an entry under their numbers.
abbrev pub AllHaveOwn : {C O : Type 0} → ℕ → List (Seats C O) → Type 0
AllHaveOwn {C} {O} loops seats =
    (t : ℕ) (s : Seats C O) → t < loops → (slice_index_or seats t s).coroutines.known.mine ≡ own_entries seat_of (numbers_of (slice_index_or seats t s).coroutines.known) (slice_index_or seats t s).coroutines.known.seen

-- the tables of all loops are made for so many coroutines
abbrev pub HaveCoroutines : {C O : Type 0} → ℕ → List (LoopShared C O) → Type 0
HaveCoroutines {C} {O} many shared =
    (k : ℕ) (t : LoopShared C O) → k < length shared → (slice_index_or shared k t).coroutines.coroutines ≡ many

-- each loop has one handle, no lots and one event
abbrev pub HaveSizes : {C O : Type 0} → List (LoopShared C O) → Type 0
HaveSizes {C} {O} shared =
    (k : ℕ) (t : LoopShared C O) → k < length shared → (slice_index_or shared k t).bottoms.sizes ≡ loop_sizes

-- the seats of so many loops have seen event 0 set
abbrev pub HaveSet : {C O : Type 0} → ℕ → List (Seats C O) → Type 0
HaveSet {C} {O} loops seats =
    (t : ℕ) (s : Seats C O) → t < loops → some_entry (sets 0) (slice_index_or seats t s).bottoms.known.seen ≡ true
