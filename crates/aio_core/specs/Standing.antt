-- What one step, or one call, makes of what a seat knows.
use Rattle.std.specs.Prelude.{◌≡◌, ℕ, ◌≤◌, ◌<◌, Bool, true, false, ◌==◌, if◌then◌else◌, Option, None, Some, List, [], ◌∷◌, ◌++◌}
use Rattle.table_seats.specs.Seats.{Makes as makes_part}
use Rattle.aio_model.specs.declared.loops.flags.Flags.{Flags}
use Rattle.aio_model.specs.declared.loops.kinds.Kind as asking
use Rattle.aio_model.specs.declared.loops.kinds.Kind.TheVariants.{Sched, Idle, Del}
use Rattle.aio_model.specs.Loop.FlagsWord.{word_of}
use Rattle.aio_model.specs.Loop.History.{EnqueueAsks, ToCall, ToCallIdle, ToDelete, ToCallOnce, Entry, New, Free, Enqueue, Put, Cancel, Take, Dequeue}
use Rattle.aio_model.specs.Loop.Flags.{flags_of, are_due}
use Rattle.aio_model.specs.Loop.Lists.{seat_of, out_of}
use Rattle.aio_model.specs.Loop.Legal.{IsLegal}
use Rattle.aio_model.specs.Loop.InFlight.{Reason, ForIndex, Phase, AtRest, LotClaimed, Announced, HeadLoaded, Linked, ToStore, ToLoad, ToSet}
use Rattle.aio_core.specs.Words.{head_at, notified_at, notify_me_at, notifier_at, flags_at, next_at, index_count, free_word}
use Rattle.aio_core.specs.Known.{Kind, EnqueueFetchOr, HeadLoad, NextStore, HeadCompare, TakeSwap, NextLoad, DequeueFetchAnd, CancelFetchAnd, NotifiedStore, NotifyMeLoad, NotifierSwap, LotClaimCompare, LotFreeStore, Done, Known, part_of}

-- what a call of this kind asks
abbrev pub asks_of_kind : asking.Kind → EnqueueAsks
asks_of_kind Sched = ToCall
asks_of_kind Idle = ToCallIdle
asks_of_kind Del = ToDelete

-- the bits that an enqueue sets
abbrev pub mask_of : EnqueueAsks → ℕ
mask_of ToCall = 3
mask_of ToCallIdle = 19
mask_of ToDelete = 5
mask_of ToCallOnce = 11

abbrev pub asked_with : ℕ → EnqueueAsks
asked_with mask =
    if mask == 3 then ToCall else if mask == 19 then ToCallIdle else if mask == 5 then ToDelete else ToCallOnce

abbrev pub done : Kind → ℕ → ℕ → Done
done kind word found = record { kind = kind; word = word; found = found }

-- The entry was made, behind some of others: it stands in the one history, which is legal, and what was seen goes on with it.
abbrev pub Makes : Entry → Known → Known → Type 0
Makes entry before after =
    makes_part seat_of (IsLegal before.sizes) entry (part_of before) (part_of after)

-- Phases, after a step.

-- the index that is to be pushed
abbrev pub index_in : Phase → ℕ
index_in AtRest = 0
index_in (LotClaimed i job) = i
index_in (Announced i) = i
index_in (HeadLoaded i found) = i
index_in (Linked i found) = i
index_in (ToStore reason) = 0
index_in (ToLoad reason) = 0
index_in (ToSet reason) = 0

-- an enqueue that found the index pending has nothing to push, and notifies
abbrev pub after_enqueue : ℕ → Flags → Phase
after_enqueue i flags = if flags.pending then ToStore (ForIndex i) else Announced i

-- Steps of any seat.

-- the index was asked this, and had these flags
pub record Enqueues (i : ℕ) (asked : EnqueueAsks) (flags : Flags) (before after : Known) : Type 0 where
  pub makes : Makes (Enqueue i asked before.first flags) before after
  pub rest : after ≡ record before { seen = after.seen; mine = after.mine; did = done EnqueueFetchOr (flags_at i) (word_of flags) ∷ before.did; phase = after_enqueue i flags }

-- the head was loaded, and stored as what follows the index
pub record Aims (i found : ℕ) (before after : Known) : Type 0 where
  pub below : i < index_count before.sizes
  pub rest : after ≡ record before { did = done NextStore (next_at i) found ∷ done HeadLoad head_at found ∷ before.did; phase = Linked i found }

-- the head was the one that was loaded, and the index was pushed
pub record Pushes (i found : ℕ) (before after : Known) : Type 0 where
  pub makes : Makes (Put i before.first) before after
  pub rest : after ≡ record before { seen = after.seen; mine = after.mine; did = done HeadCompare head_at found ∷ before.did; phase = ToStore (ForIndex i) }

-- the head was another, and the index is still to be pushed
pub record Misses (i found : ℕ) (before after : Known) : Type 0 where
  pub rest : after ≡ record before { did = done HeadCompare head_at found ∷ before.did; phase = Announced i }

-- the index was canceled, and had these flags
pub record Cancels (i : ℕ) (flags : Flags) (before after : Known) : Type 0 where
  pub makes : Makes (Cancel i before.first flags) before after
  pub rest : after ≡ record before { seen = after.seen; mine = after.mine; did = done CancelFetchAnd (flags_at i) (word_of flags) ∷ before.did }

-- Steps of the home.

abbrev pub is_empty : List ℕ → Bool
is_empty [] = true
is_empty (i ∷ rest) = false

-- an empty list makes no slice
abbrev pub with_slice : List ℕ → ℕ → List ℕ
with_slice slices word = if word == 0 then slices else slices ++ word ∷ []

-- the list was taken, and is the last slice
pub record Takes (found : ℕ) (before after : Known) : Type 0 where
  pub makes : Makes Take before after
  pub below : found ≤ index_count before.sizes
  pub left : before.stage.hand ≡ None → is_empty after.stage.slices ≡ is_empty (out_of after.seen)
  pub rest : after ≡ record before { seen = after.seen; mine = after.mine; did = done TakeSwap head_at found ∷ before.did; stage = record before.stage { slices = with_slice before.stage.slices found } }

-- what is left of the slices once the first one's first is at hand
abbrev pub without_first : ℕ → List ℕ → List ℕ
without_first next slices = if next == 0 then slices else next ∷ slices

-- the first of the first slice is at hand, and what follows it was loaded; a lot has a job of this number
pub record Lifts (i found : ℕ) (job : Option ℕ) (more : List ℕ) (before after : Known) : Type 0 where
  pub below : found ≤ index_count before.sizes
  pub rest : after ≡ record before { did = done NextLoad (next_at i) found ∷ before.did; stage = record { slices = without_first found more; hand = Some i; job = job } }

-- the index at hand was dequeued, and had these flags
pub record Dequeues (i : ℕ) (flags : Flags) (before after : Known) : Type 0 where
  pub makes : Makes (Dequeue i (are_due flags)) before after
  pub were : flags ≡ flags_of i (makes.others ++ before.seen)
  pub left : is_empty after.stage.slices ≡ is_empty (out_of after.seen)
  pub rest : after ≡ record before { seen = after.seen; mine = after.mine; did = done DequeueFetchAnd (flags_at i) (word_of flags) ∷ before.did; stage = record before.stage { hand = None; job = None } }

-- Steps of a notify.

-- a seat that is about to notify, or at rest: a notify may be called for itself
abbrev pub may_notify : Phase → Bool
may_notify AtRest = true
may_notify (ToStore reason) = true
may_notify _ = false

-- `notified` was stored
pub record StoresNotified (reason : Reason) (before after : Known) : Type 0 where
  pub rest : after ≡ record before { did = done NotifiedStore notified_at 1 ∷ before.did; phase = ToLoad reason }

-- a home that isn't about to sleep need not be told
abbrev pub after_load : Reason → ℕ → Phase
after_load reason found = if found == 0 then AtRest else ToSet reason

-- `notify_me` was loaded
pub record LoadsNotifyMe (reason : Reason) (found : ℕ) (before after : Known) : Type 0 where
  pub rest : after ≡ record before { did = done NotifyMeLoad notify_me_at found ∷ before.did; phase = after_load reason found }

-- the notifier was set
pub record SetsNotifier (found : ℕ) (before after : Known) : Type 0 where
  pub rest : after ≡ record before { did = done NotifierSwap notifier_at found ∷ before.did; phase = AtRest }

-- Looks, which change nothing but that they were made.

pub record Looks (kind : Kind) (word found : ℕ) (before after : Known) : Type 0 where
  pub rest : after ≡ record before { did = done kind word found ∷ before.did }

-- Steps on lots.

-- a life of the lot was begun for a job of this number
pub record Claims (i job found : ℕ) (before after : Known) : Type 0 where
  pub makes : Makes (New i before.first job) before after
  pub rest : after ≡ record before { seen = after.seen; mine = after.mine; did = done LotClaimCompare (flags_at i) found ∷ before.did; phase = LotClaimed i job }

-- its life ended
pub record Frees (i : ℕ) (before after : Known) : Type 0 where
  pub makes : Makes (Free i) before after
  pub rest : after ≡ record before { seen = after.seen; mine = after.mine; did = done LotFreeStore (flags_at i) free_word ∷ before.did }

-- a job was placed: a life of the lot was begun for it, and the lot was enqueued
pub record PlacesJob (i job : ℕ) (before after : Known) : Type 0 where
  pub claimed : Known
  pub flags : Flags
  pub claims : Claims i job free_word before claimed
  pub enqueues : Enqueues i ToCallOnce flags claimed after
  pub first : flags.pending ≡ false
