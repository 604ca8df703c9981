-- What each step on the table tells, in the words of a step of the base crate: of the step, of what the seat knew, of the number
-- that was found, and of what the seat knows after.
use Rattle.std.specs.Prelude.{◌≡◌, ℕ, ◌+◌, ◌<◌, ◌≤◌, ◌==◌, true, false, Option, None, Some, List, [], ◌∷◌, MatchBool}
use mathlib.Core.Option.{some}
use Rattle.atomic_table.specs.Table.{Me, Step, rest}
use Rattle.table_seats.specs.Seats.{Told, longer_of}
use Rattle.aio_model.specs.declared.loops.flags.Flags.{Flags}
use Rattle.aio_model.specs.Loop.FlagsWord.{word_of, flags_in}
use Rattle.aio_model.specs.Loop.InFlight.{Reason, AtRest, Announced, HeadLoaded, Linked, ToLoad, flight_of}
use Rattle.aio_core.specs.Words.{head_at, notifier_at, event_at, flags_at, next_at, index_count, free_word}
use Rattle.aio_core.specs.Known.{LotClaimCompare, HeadLoad, NextStore, ScanFlagsLoad, EventLoad, NotifierLoad, Scan, Scanning, Committed, Armed, Known}
use Rattle.aio_model.specs.Loop.History.{Entry}
use Rattle.aio_model.specs.Loop.Flags.{is_pending}
use Rattle.aio_model.specs.Loop.Lists.{job_of, is_set}
use Rattle.aio_model.specs.Loop.Legal.{IsLegal}
use Rattle.aio_core.specs.Rule.{is_wanted, is_open}
use Rattle.aio_core.specs.Joining.{IsJoined}
use Rattle.aio_core.specs.Standing.{may_notify, StoresNotified, LoadsNotifyMe, SetsNotifier, Claims, Frees, Looks, done, asked_with, Enqueues, Pushes, Misses, Cancels, Takes, Lifts, Dequeues}
use Rattle.aio_core.specs.SleepSteps.{BeginsScan, ScansNext, ScansFlags, Arms, Tests, Disarms, ClearsNotifier, Accepts, SetsEvent, ClearsEvent, LoadsEvent, OwnsAll}

-- the enqueue of the index whose flags word this is
pub record Enqueued (i mask found : ℕ) (before after : Known) : Type 0 where
  pub flags : Flags
  pub found_is : found ≡ word_of flags
  pub enqueues : Enqueues i (asked_with mask) flags before after

pub record Canceled (i found : ℕ) (before after : Known) : Type 0 where
  pub flags : Flags
  pub found_is : found ≡ word_of flags
  pub cancels : Cancels i flags before after

pub record Dequeued (i found : ℕ) (before after : Known) : Type 0 where
  pub flags : Flags
  pub found_is : found ≡ word_of flags
  pub dequeues : Dequeues i flags before after

pub record HeadIsLoaded (i found : ℕ) (before after : Known) : Type 0 where
  pub below : i < index_count before.sizes
  pub rest : after ≡ record before { did = done HeadLoad head_at found ∷ before.did; phase = HeadLoaded i found }

pub record NextIsStored (i found : ℕ) (before after : Known) : Type 0 where
  pub rest : after ≡ record before { did = done NextStore (next_at i) found ∷ before.did; phase = Linked i found }

-- the flags of the index at hand, as their word says
pub record FlagsAreScanned (i found : ℕ) (scan : Scan) (before after : Known) : Type 0 where
  pub flags : Flags
  pub found_is : found ≡ word_of flags
  pub scans : ScansFlags i flags scan before after

module _ {S : Type 0} where
  -- The notifier was loaded. Who owns all numbers has seen the whole history, and where a home is committed and nobody else can be under
  -- way, it is set for all that home is not to sleep over.
  abbrev pub notifier_looked_at : Step S → Me S Known → ℕ → Me S Known → Type 0
  notifier_looked_at step before found after =
      (after.1 ≡ before.1) × Looks NotifierLoad notifier_at found before.0 after.0 × (found ≤ 1) × (OwnsAll before.0 → IsLegal before.0.sizes before.0.seen × (before.0.mine ≡ before.0.seen)) × (OwnsAll before.0 → before.0.phase ≡ AtRest → (watched : List ℕ) → before.0.sleep ≡ Committed watched → (reason : Reason) → is_wanted reason before.0.seen ≡ true → is_open [] watched reason ≡ false → found ≡ 1)

  abbrev pub event_told : Step S → Me S Known → ℕ → Me S Known → Type 0
  event_told step before found after =
      (after.1 ≡ before.1) × ((e : ℕ) → step.word ≡ event_at e → Looks EventLoad (event_at e) found before.0 after.0 × (OwnsAll before.0 → is_set e before.0.seen ≡ (found == 1)))

  abbrev pub flags_told : Step S → Me S Known → ℕ → Me S Known → Type 0
  flags_told step before found after =
      (after.1 ≡ before.1) × ((i : ℕ) → step.word ≡ flags_at i → Looks ScanFlagsLoad (flags_at i) found before.0 after.0 × (OwnsAll before.0 → is_pending i before.0.seen ≡ (flags_in found).pending))

  -- the steps on events
  abbrev pub event_set : Step S → Me S Known → ℕ → Me S Known → Type 0
  event_set step before found after =
      (after.1 ≡ before.1) × ((e : ℕ) → step.word ≡ event_at e → SetsEvent e found before.0 after.0)

  abbrev pub event_cleared : Step S → Me S Known → ℕ → Me S Known → Type 0
  event_cleared step before found after =
      (after.1 ≡ before.1) × ((e : ℕ) → step.word ≡ event_at e → ClearsEvent e found before.0 after.0)

  abbrev pub event_loaded : Step S → Me S Known → ℕ → Me S Known → Type 0
  event_loaded step before found after =
      (after.1 ≡ before.1) × ((e : ℕ) → step.word ≡ event_at e → LoadsEvent e found before.0 after.0)

  -- the steps of a home on its way to sleep
  abbrev pub scan_begun : Step S → Me S Known → ℕ → Me S Known → Type 0
  scan_begun step before found after =
      (after.1 ≡ before.1) × BeginsScan found before.0 after.0

  abbrev pub scan_lifted : Step S → Me S Known → ℕ → Me S Known → Type 0
  scan_lifted step before found after =
      (after.1 ≡ before.1) × ((made i : ℕ) (more : List ℕ) (scan : Scan) → before.0.sleep ≡ Scanning made scan → scan.stage.slices ≡ (i + 1) ∷ more → ScansNext i found more scan before.0 after.0)

  abbrev pub flags_scanned : Step S → Me S Known → ℕ → Me S Known → Type 0
  flags_scanned step before found after =
      (after.1 ≡ before.1) × ((made i : ℕ) (scan : Scan) → before.0.sleep ≡ Scanning made scan → scan.stage.hand ≡ Some i → FlagsAreScanned i found scan before.0 after.0)

  abbrev pub armed : Step S → Me S Known → ℕ → Me S Known → Type 0
  armed step before found after =
      (after.1 ≡ before.1) × ((made : ℕ) (scan : Scan) → before.0.sleep ≡ Scanning made scan → Arms scan.watched found before.0 after.0)

  abbrev pub tested : Step S → Me S Known → ℕ → Me S Known → Type 0
  tested step before found after =
      (after.1 ≡ before.1) × ((made : ℕ) (watched : List ℕ) → before.0.sleep ≡ Armed made watched → Tests watched found before.0 after.0)

  abbrev pub disarmed : Step S → Me S Known → ℕ → Me S Known → Type 0
  disarmed step before found after = (after.1 ≡ before.1) × Disarms found before.0 after.0

  abbrev pub notifier_cleared : Step S → Me S Known → ℕ → Me S Known → Type 0
  notifier_cleared step before found after =
      (after.1 ≡ before.1) × ClearsNotifier found before.0 after.0

  abbrev pub accepted : Step S → Me S Known → ℕ → Me S Known → Type 0
  accepted step before found after = (after.1 ≡ before.1) × Accepts before.0 after.0

  -- the three steps of a notify
  abbrev pub notified_stored : Step S → Me S Known → ℕ → Me S Known → Type 0
  notified_stored step before found after =
      (after.1 ≡ before.1) × (may_notify before.0.phase ≡ true → StoresNotified (flight_of before.0.phase) before.0 after.0)

  abbrev pub notify_me_loaded : Step S → Me S Known → ℕ → Me S Known → Type 0
  notify_me_loaded step before found after =
      (after.1 ≡ before.1) × ((reason : Reason) → before.0.phase ≡ ToLoad reason → LoadsNotifyMe reason found before.0 after.0)

  abbrev pub notifier_set : Step S → Me S Known → ℕ → Me S Known → Type 0
  notifier_set step before found after =
      (after.1 ≡ before.1) × SetsNotifier found before.0 after.0

  abbrev pub enqueued : Step S → Me S Known → ℕ → Me S Known → Type 0
  enqueued step before found after =
      (after.1 ≡ before.1) × ((i : ℕ) → step.word ≡ flags_at i → Enqueued i step.first found before.0 after.0)

  abbrev pub head_loaded : Step S → Me S Known → ℕ → Me S Known → Type 0
  head_loaded step before found after =
      (after.1 ≡ before.1) × ((i : ℕ) → before.0.phase ≡ Announced i → HeadIsLoaded i found before.0 after.0)

  abbrev pub next_stored : Step S → Me S Known → ℕ → Me S Known → Type 0
  next_stored step before found after =
      (after.1 ≡ before.1) × ((i head : ℕ) → before.0.phase ≡ HeadLoaded i head → NextIsStored i head before.0 after.0)

  -- the head that was expected is what the index leads to
  abbrev pub head_compared : Step S → Me S Known → ℕ → Me S Known → Type 0
  head_compared step before found after =
      (after.1 ≡ before.1) × ((i head : ℕ) → before.0.phase ≡ Linked i head → MatchBool (found == head) (Pushes i found before.0 after.0) (Misses i found before.0 after.0))

  abbrev pub canceled : Step S → Me S Known → ℕ → Me S Known → Type 0
  canceled step before found after =
      (after.1 ≡ before.1) × ((i : ℕ) → step.word ≡ flags_at i → Canceled i found before.0 after.0)

  abbrev pub taken : Step S → Me S Known → ℕ → Me S Known → Type 0
  taken step before found after = (after.1 ≡ before.1) × Takes found before.0 after.0

  -- the first slice leads to the index
  abbrev pub next_loaded : Step S → Me S Known → ℕ → Me S Known → Type 0
  next_loaded step before found after =
      (after.1 ≡ before.1) × ((i : ℕ) (more : List ℕ) → before.0.stage.slices ≡ (i + 1) ∷ more → Lifts i found None more before.0 after.0)

  abbrev pub dequeued : Step S → Me S Known → ℕ → Me S Known → Type 0
  dequeued step before found after =
      (after.1 ≡ before.1) × ((i : ℕ) → before.0.stage.hand ≡ Some i → Dequeued i found before.0 after.0)

  -- what two joined seats had seen
  abbrev pub learned : Step S → Me S Known → ℕ → Me S Known → Type 0
  learned step before found after =
      (after ≡ before) × ((told : Told Entry) → before.0.told ≡ Some told → IsJoined before.0.sizes told (longer_of told.staying told.joining))

-- The steps that move a job besides: of a lot's place, the job's number, and what the step announces.
module _ {J : Type 0} (number : J → ℕ) where
  abbrev pub lot_claimed : Step (Option J) → Me (Option J) Known → ℕ → Me (Option J) Known → Type 0
  lot_claimed step before found after =
      (x : J) (m : ℕ) → step.said ≡ some (Some x) → step.word ≡ flags_at (before.0.sizes.handles + m) → MatchBool (found == free_word) (Claims (before.0.sizes.handles + m) (number x) found before.0 after.0 × (after.1 ≡ (m, None) ∷ before.1)) (Looks LotClaimCompare step.word found before.0 after.0 × (after.1 ≡ before.1))

  -- the enqueue of a lot gives its place back
  abbrev pub lot_enqueued : Step (Option J) → Me (Option J) Known → ℕ → Me (Option J) Known → Type 0
  lot_enqueued step before found after =
      (after.1 ≡ rest before.1) × ((i : ℕ) → step.word ≡ flags_at i → Enqueued i 11 found before.0 after.0)

  -- a lot's place comes with it
  abbrev pub lot_lifted : Step (Option J) → Me (Option J) Known → ℕ → Me (Option J) Known → Type 0
  lot_lifted step before found after =
      (m : ℕ) (more : List ℕ) → before.0.stage.slices ≡ (before.0.sizes.handles + m + 1) ∷ more → (x : J) × (after.1 ≡ (m, Some x) ∷ before.1) × Lifts (before.0.sizes.handles + m) found (Some (number x)) more before.0 after.0

  abbrev pub lot_dequeued : Step (Option J) → Me (Option J) Known → ℕ → Me (Option J) Known → Type 0
  lot_dequeued step before found after =
      (after.1 ≡ rest before.1) × ((i : ℕ) → before.0.stage.hand ≡ Some i → Dequeued i found before.0 after.0 × (job_of i after.0.seen ≡ before.0.stage.job))

  abbrev pub lot_freed : Step (Option J) → Me (Option J) Known → ℕ → Me (Option J) Known → Type 0
  lot_freed step before found after =
      (after.1 ≡ before.1) × ((i : ℕ) → step.word ≡ flags_at i → Frees i before.0 after.0)
