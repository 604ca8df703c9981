-- The phases of a seat in an enqueue or a notify, and what it is in flight for.
use Rattle.std.specs.Prelude.{◌≡◌, ℕ, Bool, true, false}

-- what a notify is for; one that is called for itself is for nothing
pub data Reason : Type 0 where
  ForIndex : ℕ → Reason
  ForEvent : ℕ → Reason
  ForNothing : Reason

pub data Phase : Type 0 where
  AtRest : Phase
  -- a life of the lot was begun for a job of this number, and it is to be enqueued
  LotClaimed : ℕ → ℕ → Phase
  -- the index was enqueued, and is to be pushed
  Announced : ℕ → Phase
  -- besides, this head was loaded
  HeadLoaded : ℕ → ℕ → Phase
  -- besides, it was stored as what follows the index
  Linked : ℕ → ℕ → Phase
  -- about to store `notified`
  ToStore : Reason → Phase
  -- about to load `notify_me`
  ToLoad : Reason → Phase
  -- about to set the notifier
  ToSet : Reason → Phase

abbrev pub is_at_rest : Phase → Bool
is_at_rest AtRest = true
is_at_rest _ = false

-- from the enqueue, or the setting of the event, until the notify has ended
abbrev pub flight_of : Phase → Reason
flight_of AtRest = ForNothing
flight_of (LotClaimed i job) = ForNothing
flight_of (Announced i) = ForIndex i
flight_of (HeadLoaded i found) = ForIndex i
flight_of (Linked i found) = ForIndex i
flight_of (ToStore reason) = reason
flight_of (ToLoad reason) = reason
flight_of (ToSet reason) = reason

abbrev pub IsInFlightFor : ℕ → Phase → Type 0
IsInFlightFor i phase = flight_of phase ≡ ForIndex i

abbrev pub IsInFlightForEvent : ℕ → Phase → Type 0
IsInFlightForEvent e phase = flight_of phase ≡ ForEvent e
