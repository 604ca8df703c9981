-- How many states came with what was scheduled, and how many came out again at home.
use Rattle.std.specs.Prelude.{◌≡◌, ℕ, ◌+◌, ◌-◌, ◌^◌, Bool, false, [], ◌∷◌, length}
use Rattle.aio_model.specs.Loop.FlagsWord.{bit}
use Rattle.aio_model.specs.Coroutines.History.{Schedule, Push, Enter, History, seat_of, CoPlace, Free, Scheduled, Pushed, co_place_of}
use Rattle.table_seats.specs.Seats.{own_entries}
use Rattle.co_schedule.specs.Known.{Known, numbers_of}
use Rattle.aio_model.specs.Counts.{counted}

-- how many schedules gave a state
abbrev pub states_given : History → ℕ
states_given [] = 0
states_given (Schedule c cause given seat ∷ older) = bit given + states_given older
states_given (Push c seat ∷ older) = states_given older
states_given (Enter c ∷ older) = states_given older

-- whether a state came with a coroutine that stands there
abbrev pub given_at : CoPlace → Bool
given_at Free = false
given_at (Scheduled seat given) = given
given_at (Pushed seat given) = given

-- how many coroutines were entered with a state
abbrev pub states_taken : History → ℕ
states_taken [] = 0
states_taken (Schedule c cause given seat ∷ older) = states_taken older
states_taken (Push c seat ∷ older) = states_taken older
states_taken (Enter c ∷ older) = bit (given_at (co_place_of c older)) + states_taken older

-- what home counts: its own entries are as many as those of its number in what it has seen, and the states that came out are counted
abbrev pub CountsOwn : ℕ → Known → Type 0
CountsOwn states known =
    (length known.mine ≡ length (own_entries seat_of (numbers_of known) known.seen)) × (states ≡ counted (states_taken known.seen))
