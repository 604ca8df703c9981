-- Where a pass stands that has this in hand.
use Rattle.std.specs.Prelude.{ℕ}
use Rattle.co_mutex.specs.Places.{PassPlace, AtRest, Counted, Queued, Holds}
use Rattle.lock_tests.specs.declared.hand.Hand.{Hand}
use Rattle.lock_tests.specs.declared.hand.Hand.TheVariants.{Rests, Counted as HasWaiting, Queued as IsQueued, Holds as HasGuard}

abbrev pub place_at : Hand → PassPlace
place_at Rests = AtRest
place_at (HasWaiting waiting) = Counted
place_at IsQueued = Queued
place_at (HasGuard guard) = Holds

-- the number that the hand tells, if it tells one
abbrev pub number_at : Hand → ℕ → ℕ
number_at Rests number = number
number_at (HasWaiting waiting) number = waiting.number
number_at IsQueued number = number
number_at (HasGuard guard) number = number
