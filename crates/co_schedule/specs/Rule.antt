-- The rule of the table on its words: they stand for one legal history, of which each seat has seen a part.
use Rattle.std.specs.Prelude.{◌≡◌, ℕ, ◌<◌, Bool, true, false, Option, None, Some, List, ◌∷◌, ◌++◌, length, reverse, slice_index}
use Rattle.aio_chain.specs.Chains.{IsChain}
use Rattle.table_seats.specs.Seats.{owns, home, EachView, SeatsStand}
use Rattle.aio_model.specs.Coroutines.History.{History, seat_of, Scheduled, co_place_of, queue_of, IsLegal}
use Rattle.co_schedule.specs.Words.{head_at, mark_at, word_count, mark_of, next_in}
use Rattle.co_schedule.specs.Known.{Phase, AtRest, Marked, HeadLoaded, Linked, is_at_rest, Stage, Known, part_of, numbers_of}

-- the seat of this number is to push the coroutine
abbrev pub IsOwed : History → ℕ → ℕ → Bool → Type 0
IsOwed history number c given = co_place_of c history ≡ Scheduled number given

-- what a phase says
abbrev pub Owes : List ℕ → History → ℕ → Phase → Type 0
Owes words history number AtRest = Unit {0}
Owes words history number (Marked c given) = IsOwed history number c given
Owes words history number (HeadLoaded c given found) = IsOwed history number c given
Owes words history number (Linked c given found) =
    IsOwed history number c given × (next_in words c ≡ found)

-- the one whose slot is out with home is the first of the run
abbrev pub OutIsFirst : Option ℕ → List ℕ → Type 0
OutIsFirst None run = Unit {0}
OutIsFirst (Some c) run = (more : List ℕ) × (run ≡ c ∷ more)

-- what the home's view says of what was taken: it walked over some of it, newest first, and the word leads through the rest
pub record WalkStands (words taken : List ℕ) (stage : Stage) : Type 0 where
  pub is : stage.taken ≡ taken
  pub rest : List ℕ
  pub chain : IsChain (next_in words) stage.word rest
  pub whole : taken ≡ reverse rest ++ stage.run
  pub held : OutIsFirst stage.hand stage.run

-- all that a view says but for its part of the history
pub record Knows (n : ℕ) (history : History) (words taken : List ℕ) (known : Known) : Type 0 where
  pub coroutines_are : 0 < known.count → known.coroutines ≡ n
  pub active : is_at_rest known.phase ≡ false → 0 < known.count
  pub owes : Owes words history known.first known.phase
  pub walks : owns (numbers_of known) home ≡ true → WalkStands words taken known.stage

-- What is pushed and not entered was taken, or is in the list, newest first.
pub record Stands (n : ℕ) (history : History) (words : List ℕ) (views : List Known) : Type 0 where
  pub long : length words ≡ word_count n
  pub legal : IsLegal n history
  pub seats : SeatsStand seat_of part_of history views
  pub marks : (c : ℕ) → c < n → slice_index words (mark_at c) ≡ mark_of (co_place_of c history)
  pub taken : List ℕ
  pub stack : List ℕ
  pub queue : queue_of history ≡ taken ++ reverse stack
  pub chain : IsChain (next_in words) (slice_index words head_at) stack
  pub knows : EachView (Knows n history words taken) views
