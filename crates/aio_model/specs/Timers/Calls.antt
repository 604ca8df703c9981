-- What calls of a set of timers leave. The calls stand newest first.
use Rattle.std.specs.Prelude.{◌≡◌, ◌≢◌, ℕ, ◌+◌, ◌<◌, ◌≤◌, ◌==◌, nat_le, ℤ, pos, negsuc, Bool, true, false, ◌&&◌, IsTrue, if◌then◌else◌, List, [], ◌∷◌, length}
use Rattle.aio_model.specs.declared.timers.calls.TimerCall.{TimerCall}
use Rattle.aio_model.specs.declared.timers.calls.TimerCall.TheVariants.{Add, Arm, Disarm, RunBegin, Give}

-- how many timers were made; their numbers lie below it
abbrev pub made : List TimerCall → ℕ
made [] = 0
made (Add ∷ calls) = made calls + 1
made (call ∷ calls) = made calls

-- A timer is armed from an arm of it to a disarm of it, or till a run gives it.
abbrev pub is_armed : ℕ → List TimerCall → Bool
is_armed timer [] = false
is_armed timer (Arm other expire ∷ calls) = if other == timer then true else is_armed timer calls
is_armed timer (Disarm other ∷ calls) = if other == timer then false else is_armed timer calls
is_armed timer (Give other ∷ calls) = if other == timer then false else is_armed timer calls
is_armed timer (call ∷ calls) = is_armed timer calls

-- a time before 0 counts as 0
abbrev pub from_zero : ℤ → ℕ
from_zero (pos n) = n
from_zero (negsuc n) = 0

-- a timer's expiry is that of its last arm
abbrev pub expiry : ℕ → List TimerCall → ℕ
expiry timer [] = 0
expiry timer (Arm other expire ∷ calls) = if other == timer then from_zero expire else expiry timer calls
expiry timer (call ∷ calls) = expiry timer calls

-- how many calls stood before the last arm of a timer
abbrev pub place : ℕ → List TimerCall → ℕ
place timer [] = 0
place timer (Arm other expire ∷ calls) = if other == timer then length calls else place timer calls
place timer (call ∷ calls) = place timer calls

-- A run marks the timers that are armed and due at its begin. An arm, a disarm and the run itself take the mark away.
abbrev pub is_marked : ℕ → List TimerCall → Bool
is_marked timer [] = false
is_marked timer (RunBegin now ∷ calls) = is_armed timer calls && nat_le (expiry timer calls) now
is_marked timer (Arm other expire ∷ calls) = if other == timer then false else is_marked timer calls
is_marked timer (Disarm other ∷ calls) = if other == timer then false else is_marked timer calls
is_marked timer (Give other ∷ calls) = if other == timer then false else is_marked timer calls
is_marked timer (Add ∷ calls) = is_marked timer calls

-- Of two armed timers the one that expires first stands before the other, and of equal ones the one armed first.
pub record StandsBefore (calls : List TimerCall) (first second : ℕ) : Type 0 where
  pub no_later : expiry first calls ≤ expiry second calls
  pub of_equals : expiry first calls ≡ expiry second calls → place first calls < place second calls

-- the timer of a kind that stands before all others of it
pub record IsFirstOfKind (kind : ℕ → List TimerCall → Bool) (calls : List TimerCall) (timer : ℕ) : Type 0 where
  pub of_kind : IsTrue (kind timer calls)
  pub before : (other : ℕ) → IsTrue (kind other calls) → other ≢ timer → StandsBefore calls timer other

-- no timer is of this kind
abbrev pub IsNone : (ℕ → List TimerCall → Bool) → List TimerCall → Type 0
IsNone kind calls = (timer : ℕ) → kind timer calls ≡ false

-- this is the earliest expiry of the armed timers
abbrev pub IsEarliest : List TimerCall → ℕ → Type 0
IsEarliest calls expire = (timer : ℕ) × IsFirstOfKind is_armed calls timer × (expiry timer calls ≡ expire)
