-- An enqueue from any thread, as a run of the steps of the table.
use Rattle.std.specs.Prelude.{◌≡◌, ℕ, zero, suc, false, if◌then◌else◌, [], ◌∷◌, MatchBool}
use Rattle.aio_model.specs.declared.loops.flags.Flags.{Flags}
use Rattle.aio_model.specs.Loop.History.{EnqueueAsks, Enqueue, Put, History}
use Rattle.aio_model.specs.Loop.Seats.{StandsAtTheEnd}
use Rattle.aio_core.specs.Known.{Known}
use Rattle.aio_core.specs.Standing.{Enqueues, Aims, Pushes}
use Rattle.aio_core.specs.Calls.{IsMissed}
use Rattle.aio_notify.specs.Notifying.{Notifies}
use Rattle.aio_bh.specs.HomeSteps.{home_steps}

-- one try that found another head than the one that it had loaded
pub record MissesOnce (i : ℕ) (before after : Known) : Type 0 where
  pub head : ℕ
  pub aimed : Known
  pub aims : Aims i head before aimed
  pub missed : IsMissed i head aimed after

-- one try that pushed the index
pub record PushesOnce (i : ℕ) (before after : Known) : Type 0 where
  pub head : ℕ
  pub aimed : Known
  pub aims : Aims i head before aimed
  pub pushes : Pushes i head aimed after

-- so many tries in a row that missed
abbrev pub Tries : ℕ → ℕ → Known → Known → Type 0
Tries i zero before after = after ≡ before
Tries i (suc misses) before after =
    (mid : Known) × Tries i misses before mid × MissesOnce i mid after

-- tries until one pushed the index
pub record PushesAtLast (i : ℕ) (before after : Known) : Type 0 where
  pub misses : ℕ
  pub last : Known
  pub tries : Tries i misses before last
  pub pushes : PushesOnce i last after

-- the enqueue, and the push of an index that wasn't pending
pub record Inserts (i : ℕ) (asked : EnqueueAsks) (flags : Flags) (before after : Known) : Type 0 where
  pub announced : Known
  pub enqueues : Enqueues i asked flags before announced
  pub pushes : MatchBool flags.pending (after ≡ announced) (PushesAtLast i announced after)

-- the same with one try to push: it pushed
pub record InsertsAtOnce (i : ℕ) (asked : EnqueueAsks) (flags : Flags) (before after : Known) : Type 0 where
  pub announced : Known
  pub enqueues : Enqueues i asked flags before announced
  pub pushes : MatchBool flags.pending (after ≡ announced) (PushesOnce i announced after)

-- whatever there was to push was pushed, and home was notified
pub record Schedules (i : ℕ) (asked : EnqueueAsks) (flags : Flags) (before after : Known) : Type 0 where
  pub inserted : Known
  pub inserts : Inserts i asked flags before inserted
  pub notifies : Notifies inserted after

pub record SchedulesAtOnce (i : ℕ) (asked : EnqueueAsks) (flags : Flags) (before after : Known) : Type 0 where
  pub inserted : Known
  pub inserts : InsertsAtOnce i asked flags before inserted
  pub notifies : Notifies inserted after

-- tries until one pushed the index, and home was notified
pub record PushesInTheEnd (i : ℕ) (before after : Known) : Type 0 where
  pub pushed : Known
  pub pushes : PushesAtLast i before pushed
  pub notifies : Notifies pushed after

-- one try pushed the index, and home was notified
pub record PushesAndNotifies (i : ℕ) (before after : Known) : Type 0 where
  pub pushed : Known
  pub pushes : PushesOnce i before pushed
  pub notifies : Notifies pushed after

-- the one try missed, the index is still to be pushed, and nobody was notified
pub record SchedulesLater (i : ℕ) (asked : EnqueueAsks) (flags : Flags) (before after : Known) : Type 0 where
  pub announced : Known
  pub enqueues : Enqueues i asked flags before announced
  pub not_pending : flags.pending ≡ false
  pub missed : MissesOnce i announced after

-- the entries of an enqueue, newest first
abbrev pub enqueue_entries : ℕ → EnqueueAsks → ℕ → Flags → History
enqueue_entries i asked seat flags =
    if flags.pending then Enqueue i asked seat flags ∷ [] else Put i seat ∷ Enqueue i asked seat flags ∷ []

-- just these entries of the seat stand in the history, and all else that it knows is as before; no step that is the home's alone was
-- made
pub record AddsOnly (entries : History) (before after : Known) : Type 0 where
  pub stands : StandsAtTheEnd before.sizes before.first entries before.seen before.mine after.seen after.mine
  pub rest : after ≡ record before { seen = after.seen; mine = after.mine; did = after.did; phase = after.phase }
  pub steps : home_steps after.did ≡ home_steps before.did
