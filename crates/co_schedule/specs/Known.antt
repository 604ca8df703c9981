-- What a seat knows.
use Rattle.std.specs.Prelude.{◌≡◌, ℕ, Bool, true, false, Option, None, List, []}
use Rattle.table_seats.specs.Seats.{Numbers, Told, Part, numbers_in}
use Rattle.aio_model.specs.Coroutines.History.{Entry, History}

-- the kinds of atomic step on a word
pub data Kind : Type 0 where
  MarkCompare : Kind
  HeadLoad : Kind
  NextStore : Kind
  HeadCompare : Kind
  TakeSwap : Kind
  NextLoad : Kind
  MarkLoad : Kind
  MarkClear : Kind

-- a step that was done: its kind, its word, and what it found there
pub record Done : Type 0 where
  pub kind : Kind
  pub word : ℕ
  pub found : ℕ

-- Each phase but rest has the coroutine that the seat marked, and whether a state came with it.
pub data Phase : Type 0 where
  AtRest : Phase
  Marked : ℕ → Bool → Phase
  -- besides, this head was loaded
  HeadLoaded : ℕ → Bool → ℕ → Phase
  -- besides, it was stored as what follows the coroutine
  Linked : ℕ → Bool → ℕ → Phase

abbrev pub is_at_rest : Phase → Bool
is_at_rest AtRest = true
is_at_rest _ = false

-- The home's: what it took and hasn't begun, in order of pushing; the word to walk on from, and what was walked over; and, where
-- the first one's state is out with it, that one and whether it has a state.
pub record Stage : Type 0 where
  pub taken : List ℕ
  pub word : ℕ
  pub run : List ℕ
  pub hand : Option ℕ
  pub given : Bool

abbrev pub empty_stage : Stage
empty_stage = record { taken = []; word = 0; run = []; hand = None; given = false }

pub record Known : Type 0 where
  pub coroutines : ℕ
  pub seen : History
  pub mine : History
  pub did : List Done
  pub first : ℕ
  pub count : ℕ
  pub phase : Phase
  pub stage : Stage
  pub told : Option (Told Entry)

-- it has the home's number, and no other
abbrev pub IsHomes : Known → Type 0
IsHomes known = (known.first ≡ 64) × (known.count ≡ 1)

-- the part that is about numbers and the history
abbrev pub part_of : Known → Part Entry
part_of known =
    record { first = known.first; count = known.count; seen = known.seen; mine = known.mine; told = known.told }

abbrev pub numbers_of : Known → Numbers
numbers_of known = numbers_in (part_of known)

-- what the first view knows: all numbers, and nothing done
abbrev pub first_known : ℕ → Known
first_known n =
    record { coroutines = n; seen = []; mine = []; did = []; first = 0; count = 65; phase = AtRest; stage = empty_stage; told = None }
