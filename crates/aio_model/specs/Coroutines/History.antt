-- The history of the coroutines that are scheduled into one home, newest in front, and when it is legal.
use Rattle.std.specs.Prelude.{◌≡◌, ℕ, ◌<◌, Bool, ◌==◌, if◌then◌else◌, Some, List, [], ◌∷◌, ◌++◌, drop}
use Rattle.aio_model.specs.Loop.Lists.{head_of}
use Rattle.aio_model.specs.declared.coroutines.causes.Cause.{Cause}

pub data Entry : Type 0 where
  -- the coroutine is scheduled for this cause, with a state or without, by this seat
  Schedule : ℕ → Cause → Bool → ℕ → Entry
  -- the seat pushes it
  Push : ℕ → ℕ → Entry
  -- home is to enter it
  Enter : ℕ → Entry

abbrev pub History : Type 0
History = List Entry

-- the number of the seat that made the entry; the home's is 64
abbrev pub seat_of : Entry → ℕ
seat_of (Schedule c cause given seat) = seat
seat_of (Push c seat) = seat
seat_of (Enter c) = 64

-- Where a coroutine stands: nowhere, scheduled and to be pushed by this seat, or pushed; and whether a state came with it.
pub data CoPlace : Type 0 where
  Free : CoPlace
  Scheduled : ℕ → Bool → CoPlace
  Pushed : ℕ → Bool → CoPlace

abbrev pub pushed : CoPlace → CoPlace
pushed Free = Free
pushed (Scheduled seat given) = Pushed seat given
pushed (Pushed seat given) = Pushed seat given

abbrev pub co_place_of : ℕ → History → CoPlace
co_place_of c [] = Free
co_place_of c (Schedule d cause given seat ∷ older) =
    if c == d then Scheduled seat given else co_place_of c older
co_place_of c (Push d seat ∷ older) = if c == d then pushed (co_place_of c older) else co_place_of c older
co_place_of c (Enter d ∷ older) = if c == d then Free else co_place_of c older

-- pushed and not entered, in order of pushing
abbrev pub queue_of : History → List ℕ
queue_of [] = []
queue_of (Schedule c cause given seat ∷ older) = queue_of older
queue_of (Push c seat ∷ older) = queue_of older ++ c ∷ []
queue_of (Enter c ∷ older) = drop 1 (queue_of older)

-- The entry may come next, where there are so many coroutines. A coroutine is scheduled where it stands nowhere, by a seat that
-- isn't the home's, is pushed once and by
-- the seat that scheduled it, and is entered where it is the first of those that were pushed and not entered.
abbrev pub MayFollow : ℕ → Entry → History → Type 0
MayFollow n (Schedule c cause given seat) before = (c < n) × (co_place_of c before ≡ Free) × (seat < 64)
MayFollow n (Push c seat) before = (given : Bool) × (co_place_of c before ≡ Scheduled seat given)
MayFollow n (Enter c) before = head_of (queue_of before) ≡ Some c

abbrev pub IsLegal : ℕ → History → Type 0
IsLegal n [] = Unit {0}
IsLegal n (e ∷ before) = MayFollow n e before × IsLegal n before
