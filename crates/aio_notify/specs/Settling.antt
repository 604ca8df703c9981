-- What a loop is settled by: home and the seat of all other numbers become one, and it looks at what the whole history says.
use Rattle.std.specs.Prelude.{◌≡◌, ℕ, zero, suc, ◌==◌, Bool, true, false, Option, None, Some, []}
use Rattle.aio_model.specs.Loop.History.{Sizes, History}
use Rattle.aio_model.specs.Loop.Flags.{is_pending, is_urgent}
use Rattle.aio_model.specs.Loop.Lists.{is_set}
use Rattle.aio_model.specs.Loop.Legal.{IsLegal}
use Rattle.aio_model.specs.Loop.Log.{first_from}
use Rattle.aio_model.specs.Loop.InFlight.{Reason, AtRest}
use Rattle.aio_core.specs.Words.{notifier_at, flags_at, event_at, index_count}
use Rattle.aio_core.specs.Known.{NotifierLoad, ScanFlagsLoad, EventLoad, Sleep, Committed, Known}
use Rattle.aio_core.specs.Rule.{is_among, is_wanted, is_open}
use Rattle.aio_core.specs.Joining.{joined_known, told_of, IsJoined}
use Rattle.aio_core.specs.Splitting.{front_known, back_known}
use Rattle.aio_core.specs.Standing.{Looks}
use Rattle.aio_core.specs.SleepSteps.{watched_in, OwnsAll}

abbrev pub is_committed : Sleep → Bool
is_committed (Committed watched) = true
is_committed _ = false

-- the least index that is pending
abbrev pub least_pending : Sizes → History → Option ℕ
least_pending sizes history = first_from (λ i. is_pending i history) 0 (index_count sizes)

-- the least event that is set
abbrev pub least_set : Sizes → History → Option ℕ
least_set sizes history = first_from (λ e. is_set e history) 0 sizes.events

-- the flags of the indices below a number were loaded, in rising order
abbrev pub LooksAtFlags : ℕ → Known → Known → Type 0
LooksAtFlags zero before after = after ≡ before
LooksAtFlags (suc i) before after =
    (mid : Known) × LooksAtFlags i before mid × (found : ℕ) × Looks ScanFlagsLoad (flags_at i) found mid after

-- the events below a number were loaded, in rising order
abbrev pub LooksAtEvents : ℕ → Known → Known → Type 0
LooksAtEvents zero before after = after ≡ before
LooksAtEvents (suc e) before after =
    (mid : Known) × LooksAtEvents e before mid × (found : ℕ) × Looks EventLoad (event_at e) found mid after

-- up to the one that was found, or all
abbrev pub looked_at : ℕ → Option ℕ → ℕ
looked_at count None = count
looked_at count (Some n) = suc n

-- a look changes nothing but that it was made
abbrev pub SameButDone : Known → Known → Type 0
SameButDone before after = after ≡ record before { did = after.did }

-- Home and the seat of all other numbers were joined, and one load found the notifier so. What was seen then is the whole history, from
-- the empty list on: each entry is of a number that is owned. What each of the two had seen is a part of it, in which just the
-- entries that it made stand under its numbers.
pub record IsWhole (notifier : Bool) (seat home whole : Known) : Type 0 where
  pub parts : IsJoined seat.sizes (told_of seat home) whole.seen
  pub all : OwnsAll whole
  pub only : whole.mine ≡ whole.seen
  pub legal : IsLegal whole.sizes whole.seen
  pub found : ℕ
  pub told : notifier ≡ (found == 1)
  pub loads : Looks NotifierLoad notifier_at found (joined_known seat home) whole

-- what home has taken, and how far it is, is where all numbers are; nobody is under way
pub record HomeHasAll (home whole : Known) : Type 0 where
  pub stage : whole.stage ≡ home.stage
  pub sleep : whole.sleep ≡ home.sleep
  pub rest : whole.phase ≡ AtRest

-- the notifier is set for all that home isn't to sleep over
abbrev pub NotifierStands : Bool → Known → Known → Type 0
NotifierStands notifier home whole =
    (reason : Reason) → is_wanted reason whole.seen ≡ true → is_open [] (watched_in home.sleep) reason ≡ false → notifier ≡ true

-- A loop has come to its end: all numbers are owned, nothing is pending, and no event is set.
pub record IsEnd (known : Known) : Type 0 where
  pub all : OwnsAll known
  pub only : known.mine ≡ known.seen
  pub legal : IsLegal known.sizes known.seen
  pub none_pending : least_pending known.sizes known.seen ≡ None
  pub none_set : least_set known.sizes known.seen ≡ None

-- the flags of all indices and all events were loaded
pub record EndsQuiet (seat home end : Known) : Type 0 where
  pub notifier : Bool
  pub whole : Known
  pub looked : Known
  pub is_whole : IsWhole notifier seat home whole
  pub flags : LooksAtFlags (index_count seat.sizes) whole looked
  pub events : LooksAtEvents seat.sizes.events looked end
  pub same : SameButDone whole end
  pub is_end : IsEnd end

-- Home and the seat were cut off from each other again: each knows all, home is as committed as it was, and both are at rest.
pub record IsGivenBack (seat home whole seat_after home_after : Known) : Type 0 where
  pub seat_is : seat_after ≡ front_known 64 whole
  pub home_is : home_after ≡ back_known 64 whole
  pub at_home : (home_after.stage ≡ home.stage) × (home_after.sleep ≡ home.sleep)
  pub rest : (seat_after.phase ≡ AtRest) × (home_after.phase ≡ AtRest)

-- the least pending index was found; where it is urgent, the notifier was found set
pub record FindsPending (i : ℕ) (notifier : Bool) (seat home seat_after home_after : Known) : Type 0 where
  pub whole : Known
  pub looked : Known
  pub is_whole : IsWhole notifier seat home whole
  pub flags : LooksAtFlags (suc i) whole looked
  pub same : SameButDone whole looked
  pub least : least_pending seat.sizes whole.seen ≡ Some i
  pub rings : is_urgent i whole.seen ≡ true → notifier ≡ true
  pub back : IsGivenBack seat home looked seat_after home_after

-- nothing was pending, and the least event that is set was found; where home watched it, the notifier was found set
pub record FindsSetEvent (e : ℕ) (notifier : Bool) (seat home seat_after home_after : Known) : Type 0 where
  pub whole : Known
  pub looked : Known
  pub found : Known
  pub is_whole : IsWhole notifier seat home whole
  pub flags : LooksAtFlags (index_count seat.sizes) whole looked
  pub events : LooksAtEvents (suc e) looked found
  pub same : SameButDone whole found
  pub none_pending : least_pending seat.sizes whole.seen ≡ None
  pub least : least_set seat.sizes whole.seen ≡ Some e
  pub rings : is_among e (watched_in home.sleep) ≡ true → notifier ≡ true
  pub back : IsGivenBack seat home found seat_after home_after
