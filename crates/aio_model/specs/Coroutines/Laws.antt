-- The laws of legal histories of coroutines.
use Rattle.std.specs.Prelude.{◌≡◌, ℕ, Bool, true, false, ◌||◌, ◌==◌, List, [], ◌∷◌, ◌++◌}
use Rattle.aio_model.specs.declared.coroutines.causes.Cause.{Cause}
use Rattle.aio_model.specs.Coroutines.History.{Entry, Schedule, Push, Enter, History, IsLegal, queue_of}

-- all that were pushed, in order of pushing
abbrev pub pushed_of : History → List ℕ
pushed_of [] = []
pushed_of (Push c seat ∷ older) = pushed_of older ++ c ∷ []
pushed_of (_ ∷ older) = pushed_of older

-- all that were entered, in order of entering
abbrev pub entered_of : History → List ℕ
entered_of [] = []
entered_of (Enter c ∷ older) = entered_of older ++ c ∷ []
entered_of (_ ∷ older) = entered_of older

-- what was pushed is what was entered, followed by what waits: the n-th that is entered is the n-th that was pushed
abbrev pub IsInOrder : Type 0
IsInOrder =
    (n : ℕ) (history : History) → IsLegal n history → pushed_of history ≡ entered_of history ++ queue_of history

-- the entry enters this coroutine
abbrev pub enters : ℕ → Entry → Bool
enters c (Enter d) = c == d
enters c (Schedule d cause given seat) = false
enters c (Push d seat) = false

-- some of these entries passes
abbrev pub some_entry : (Entry → Bool) → History → Bool
some_entry test [] = false
some_entry test (e ∷ older) = test e || some_entry test older

-- between two schedules of one coroutine stands an enter of it
abbrev pub IsEnteredBetween : Type 0
IsEnteredBetween =
    (n : ℕ) (newer between older : History) (c : ℕ) (second first : Cause) (second_given first_given : Bool) (second_seat first_seat : ℕ) → IsLegal n (newer ++ (Schedule c second second_given second_seat ∷ (between ++ (Schedule c first first_given first_seat ∷ older)))) → some_entry (enters c) between ≡ true

-- what is older than any entry of a legal history is legal
abbrev pub IsLegalCutAnywhere : Type 0
IsLegalCutAnywhere =
    (n : ℕ) (newer older : History) → IsLegal n (newer ++ older) → IsLegal n older
