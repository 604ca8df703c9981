-- The rule of a loop's table: its words stand for one legal history, of which each seat has seen a part. It is a record of
-- parts, each about words of its own.
use Rattle.std.specs.Prelude.{◌≡◌, ℕ, ◌+◌, ◌<◌, ◌≤◌, ◌⊎◌, ◌==◌, Bool, true, false, not, ◌||◌, Option, None, Some, List, [], ◌∷◌, length, slice_index, MatchBool}
use mathlib.Core.Option.{some}
use lib.ListN.{get_elem?}
use Rattle.atomic_table.specs.Table.{State}
use Rattle.table_seats.specs.Seats.{owns, home, EachView, SeatsStand as parts_stand}
use Rattle.aio_model.specs.Loop.FlagsWord.{bit}
use Rattle.aio_model.specs.Loop.History.{Sizes, History}
use Rattle.aio_model.specs.Loop.Flags.{is_lot, lives, was_dequeued, is_urgent}
use Rattle.aio_model.specs.Loop.Lists.{seat_of, was_put, is_announced, announcer_of, claimer_of, job_of, stack_of, out_of, is_set}
use Rattle.aio_model.specs.Loop.Legal.{IsLegal}
use Rattle.aio_model.specs.Loop.InFlight.{Reason, ForIndex, ForEvent, ForNothing, Phase, AtRest, LotClaimed, Announced, HeadLoaded, Linked, ToStore, ToLoad, ToSet, is_at_rest, flight_of}
use Rattle.aio_chain.specs.Chains.{IsChain, AreChains}
use Rattle.aio_core.specs.Words.{head_at, notified_at, notify_me_at, notifier_at, event_at, flags_at, index_count, word_count, flags_word, next_in}
use Rattle.aio_core.specs.Known.{Done, Stage, Scan, Sleep, Running, Scanning, Armed, ToDisarm, Committed, Known, part_of, numbers_of}

-- Seats.

-- What a seat knows is of this table, and it owns a number in every phase but rest. One that was joined into another has no number
-- left, and knows nothing of the sizes.
pub record IsOfTable (sizes : Sizes) (known : Known) : Type 0 where
  pub sizes_are : 0 < known.count → known.sizes ≡ sizes
  pub active : is_at_rest known.phase ≡ false → 0 < known.count

pub record SeatsStand (sizes : Sizes) (history : History) (views : List Known) : Type 0 where
  pub parts : parts_stand seat_of part_of history views
  pub tables : EachView (IsOfTable sizes) views

-- Flags.

pub record FlagsStand (sizes : Sizes) (history : History) (words : List ℕ) : Type 0 where
  pub each : (i : ℕ) → i < index_count sizes → slice_index words (flags_at i) ≡ flags_word sizes i history

-- Lists.

-- the seat of this number has announced the index, and is to push it
pub record IsOwed (sizes : Sizes) (history : History) (number i : ℕ) : Type 0 where
  pub below : i < index_count sizes
  pub announced : is_announced i history ≡ true
  pub by_it : announcer_of i history ≡ Some number

-- the seat of this number has begun a life of the lot for a job of that number, and is to enqueue it
pub record IsClaimed (sizes : Sizes) (history : History) (number i job : ℕ) : Type 0 where
  pub lot : is_lot sizes i ≡ true
  pub by_it : claimer_of i history ≡ Some number
  pub job_is : job_of i history ≡ Some job

-- what a phase says of the lists
abbrev pub Owes : Sizes → List ℕ → History → ℕ → Phase → Type 0
Owes sizes words history number AtRest = Unit {0}
Owes sizes words history number (LotClaimed i job) = IsClaimed sizes history number i job
Owes sizes words history number (Announced i) = IsOwed sizes history number i
Owes sizes words history number (HeadLoaded i found) = IsOwed sizes history number i
Owes sizes words history number (Linked i found) =
    IsOwed sizes history number i × (next_in words i ≡ found)
Owes sizes words history number (ToStore reason) = Unit {0}
Owes sizes words history number (ToLoad reason) = Unit {0}
Owes sizes words history number (ToSet reason) = Unit {0}

-- what the home has taken is out: the index at hand, and then its slices
abbrev pub IsOut : (ℕ → ℕ) → List ℕ → Option ℕ → List ℕ → Type 0
IsOut next slices None out = AreChains next slices out
IsOut next slices (Some i) out = (rest : List ℕ) × (out ≡ i ∷ rest) × AreChains next slices rest

-- no slice is empty
abbrev pub NoneEmpty : List ℕ → Type 0
NoneEmpty [] = Unit {0}
NoneEmpty (word ∷ words) = (0 < word) × NoneEmpty words

-- what the home's view says of out
abbrev pub HasOut : List ℕ → History → Known → Type 0
HasOut words history known =
    owns (numbers_of known) home ≡ true → IsOut (next_in words) known.stage.slices known.stage.hand (out_of history) × NoneEmpty known.stage.slices

pub record ListsStand (sizes : Sizes) (history : History) (words : List ℕ) (views : List Known) : Type 0 where
  pub stack : IsChain (next_in words) (slice_index words head_at) (stack_of history)
  pub owed : EachView (λ known. Owes sizes words history known.first known.phase) views
  pub out : EachView (HasOut words history) views

-- Events: there is room for 64, whatever their number.

abbrev pub EventsStand : History → List ℕ → Type 0
EventsStand history words =
    (e : ℕ) → e < 64 → slice_index words (event_at e) ≡ bit (is_set e history)

-- Sleep.

-- what a seat in this phase is to push
abbrev pub push_of : Phase → Reason
push_of AtRest = ForNothing
push_of (LotClaimed i job) = ForNothing
push_of (Announced i) = ForIndex i
push_of (HeadLoaded i found) = ForIndex i
push_of (Linked i found) = ForIndex i
push_of (ToStore reason) = ForNothing
push_of (ToLoad reason) = ForNothing
push_of (ToSet reason) = ForNothing

-- what it is still to store `notified` for
abbrev pub store_of : Phase → Reason
store_of AtRest = ForNothing
store_of (LotClaimed i job) = ForNothing
store_of (Announced i) = ForIndex i
store_of (HeadLoaded i found) = ForIndex i
store_of (Linked i found) = ForIndex i
store_of (ToStore reason) = reason
store_of (ToLoad reason) = ForNothing
store_of (ToSet reason) = ForNothing

-- home is not to sleep over it: the index is urgent, the event is set
abbrev pub is_wanted : Reason → History → Bool
is_wanted (ForIndex i) history = is_urgent i history
is_wanted (ForEvent e) history = is_set e history
is_wanted ForNothing history = false

-- some seat is in a phase of this kind
pub record SomeSeat (P : Phase → Type 0) (views : List Known) : Type 0 where
  pub id : ℕ
  pub known : Known
  pub at : get_elem? views id ≡ some known
  pub is : P known.phase

abbrev pub WillPush : ℕ → List Known → Type 0
WillPush i = SomeSeat (λ phase. push_of phase ≡ ForIndex i)

abbrev pub WillStore : Reason → List Known → Type 0
WillStore reason = SomeSeat (λ phase. store_of phase ≡ reason)

abbrev pub IsInFlight : Reason → List Known → Type 0
IsInFlight reason = SomeSeat (λ phase. flight_of phase ≡ reason)

abbrev pub is_among : ℕ → List ℕ → Bool
is_among i [] = false
is_among i (j ∷ rest) = (i == j) || is_among i rest

-- an index that is still to be loaded, or an event that was not loaded
abbrev pub is_open : List ℕ → List ℕ → Reason → Bool
is_open left watched (ForIndex i) = is_among i left
is_open left watched (ForEvent e) = not (is_among e watched)
is_open left watched ForNothing = true

-- of all else that is wanted, some seat is still to store `notified`, or it is stored
abbrev pub AreCovered : List ℕ → List ℕ → History → List ℕ → List Known → Type 0
AreCovered left watched history words views =
    (reason : Reason) → is_wanted reason history ≡ true → is_open left watched reason ≡ false → WillStore reason views ⊎ (slice_index words notified_at ≡ 1)

-- of all that is wanted and watched, some seat is in flight, or the notifier is set
abbrev pub IsSleepSafe : List ℕ → History → List ℕ → List Known → Type 0
IsSleepSafe watched history words views =
    (reason : Reason) → is_wanted reason history ≡ true → is_open [] watched reason ≡ false → IsInFlight reason views ⊎ (slice_index words notifier_at ≡ 1)

-- what a scan knows: its words lead through what is left, all of which was pushed
pub record IsScan (scan : Scan) (history : History) (words : List ℕ) (views : List Known) : Type 0 where
  pub leads : IsOut (next_in words) scan.stage.slices scan.stage.hand scan.left
  pub full : NoneEmpty scan.stage.slices
  pub pushed : (i : ℕ) → is_among i scan.left ≡ true → was_put i history ≡ true
  pub covered : AreCovered scan.left scan.watched history words views

abbrev pub Sleeps : History → List ℕ → List Known → List Done → Sleep → Type 0
Sleeps history words views did Running = slice_index words notify_me_at ≡ 0
Sleeps history words views did (Scanning made scan) =
    (slice_index words notify_me_at ≡ 0) × (made ≤ length did) × (made ≡ length did → IsScan scan history words views)
Sleeps history words views did (Armed made watched) =
    (slice_index words notify_me_at ≡ 2) × (made ≤ length did) × (made ≡ length did → AreCovered [] watched history words views)
Sleeps history words views did ToDisarm = slice_index words notify_me_at ≡ 2
Sleeps history words views did (Committed watched) =
    (slice_index words notify_me_at ≡ 2) × IsSleepSafe watched history words views

-- what the home's view says of its sleep
abbrev pub HasSleep : History → List ℕ → List Known → Known → Type 0
HasSleep history words views known =
    owns (numbers_of known) home ≡ true → Sleeps history words views known.did known.sleep

pub record SleepStands (history : History) (words : List ℕ) (views : List Known) : Type 0 where
  pub notified : slice_index words notified_at ≤ 1
  pub notifier : slice_index words notifier_at ≤ 1
  pub pushers : (i : ℕ) → is_announced i history ≡ true → WillPush i views
  pub home : EachView (HasSleep history words views) views

-- The whole.

pub record Stands (sizes : Sizes) (history : History) (words : List ℕ) (views : List Known) : Type 0 where
  pub long : length words ≡ word_count sizes
  pub legal : IsLegal sizes history
  pub seats : SeatsStand sizes history views
  pub flags : FlagsStand sizes history words
  pub lists : ListsStand sizes history words views
  pub events : EventsStand history words
  pub sleep : SleepStands history words views

-- Slots. A lot's is at home with nothing where the lot has no life, or was dequeued; with the job where it was enqueued; out with the seat
-- that began the life until it enqueues it, and with home while the lot is at hand.

-- a slot as a state has it: none while it is out with a seat
abbrev pub SlotOf : Type 0 → Type 0
SlotOf J = mathlib.Core.Option.Option (Option J)

abbrev pub is_at_hand : ℕ → Option ℕ → Bool
is_at_hand i None = false
is_at_hand i (Some j) = i == j

pub record IsFull (history : History) (i : ℕ) : Type 0 where
  pub alive : lives i history ≡ true
  pub not_dequeued : was_dequeued i history ≡ false
  pub enqueued : claimer_of i history ≡ None

abbrev pub HasJob : {J : Type 0} → (J → ℕ) → ℕ → Stage → Option ℕ → mathlib.Core.Option.Option (SlotOf J) → Type 0
HasJob {J} number i stage job at =
    MatchBool (is_at_hand i stage.hand) (job ≡ stage.job) ((x : J) × (at ≡ some (some (Some x))) × (job ≡ Some (number x)))

pub record SlotsStand {J : Type 0} (number : J → ℕ) (sizes : Sizes) (history : History) (homes : List (SlotOf J)) (views : List Known) : Type 0 where
  pub vacant : (m : ℕ) → m < sizes.lots → lives (sizes.handles + m) history ≡ false → get_elem? homes m ≡ some (some None)
  pub emptied : (m : ℕ) → m < sizes.lots → lives (sizes.handles + m) history ≡ true → was_dequeued (sizes.handles + m) history ≡ true → get_elem? homes m ≡ some (some None)
  pub full : EachView (λ known. owns (numbers_of known) home ≡ true → (m : ℕ) → m < sizes.lots → IsFull history (sizes.handles + m) → HasJob number (sizes.handles + m) known.stage (job_of (sizes.handles + m) history) (get_elem? homes m)) views

abbrev pub Kept : {J : Type 0} → (J → ℕ) → Sizes → State (Option J) Known → Type 0
Kept number sizes state =
    (history : History) × Stands sizes history state.words state.views × SlotsStand number sizes history state.homes state.views
