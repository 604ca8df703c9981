-- What each call of a pass leaves.
use Rattle.std.specs.Prelude.{◌≡◌, ◌≢◌, ℕ, ◌+◌, ◌*◌, ◌^◌, Bool, true, false, ◌⊎◌, Option, Some, None, List, [], ◌∷◌, ◌++◌}
use Rattle.aio_model.specs.Lock.History.{LockEntry, Got, Wait, Grant, Release, coroutine_of, value_of}
use Rattle.aio_model.specs.Lock.Notes.{IsNoted}
use Rattle.aio_model.specs.Lock.Seats.{StandsInLock}
use Rattle.co_state.specs.declared.cx.CoId.{CoId}
use Rattle.co_mutex.specs.declared.answers.Begun.{Begun}
use Rattle.co_mutex.specs.declared.answers.Begun.TheVariants.{Held as BeginsHeld, Later}
use Rattle.co_mutex.specs.declared.answers.Lock.{Lock}
use Rattle.co_mutex.specs.declared.answers.Lock.TheVariants.{Held, Queued as Waits}
use Rattle.co_mutex.specs.LockWords.{locked_at, grant_at}
use Rattle.co_mutex.specs.Places.{PassPlace, AtRest, Counted, Queued, Holds}
use Rattle.co_mutex.specs.Known.{Kind, LockedCompare, LockedFetchAdd, LockedFetchSub, WhoStore, HeadLoad, NextStore, HeadCompare, HeadSwap, NextLoad, WhoLoad, GrantStore, GrantSwap, HandoffLoad, HandoffStore, HandoffCompare, SecondLook, Done, Known, moves, advances}
use Rattle.co_mutex.specs.Plays.{done}
use Rattle.co_mutex.specs.Waking.{AllOfKinds}

-- the number that names a coroutine
abbrev pub co_id_word : CoId → ℕ
co_id_word co = co.co * 2 ^ 32 + co.home

-- steps that were done in between, all of kinds that pass; no hand-off was published as 0
pub record Did (test : Kind → Bool) (before after : List Done) : Type 0 where
  pub steps : List Done
  pub is : after ≡ steps ++ before
  pub kinds : AllOfKinds test steps

-- the kinds of step of `finish_lock`
abbrev pub finishes : Kind → Bool
finishes WhoStore = true
finishes HeadLoad = true
finishes NextStore = true
finishes HeadCompare = true
finishes HandoffLoad = true
finishes HandoffCompare = true
finishes HeadSwap = true
finishes NextLoad = true
finishes WhoLoad = true
finishes GrantStore = true
finishes GrantSwap = true
finishes _ = false

-- those of `lock`
abbrev pub locks : Kind → Bool
locks LockedCompare = true
locks LockedFetchAdd = true
locks kind = finishes kind

-- the kinds of step of a wake
abbrev pub wakes : Kind → Bool
wakes HeadSwap = true
wakes NextLoad = true
wakes HandoffStore = true
wakes SecondLook = true
wakes HandoffCompare = true
wakes WhoLoad = true
wakes GrantStore = true
wakes _ = false

-- the sub first; at 1 it is all, and else steps of a wake follow
pub record UnlockSteps (answer : Option CoId) (before after : List Done) : Type 0 where
  pub found : ℕ
  pub did : Did wakes (done LockedFetchSub locked_at found ∷ before) after
  pub alone : found ≡ 1 → (answer ≡ None) × (after ≡ done LockedFetchSub locked_at found ∷ before)

module _ {T : Type 0} where
  -- the pass is in this place, by a call that made these entries
  pub record Comes (place : PassPlace) (entries : List (LockEntry T)) (before after : Known T) : Type 0 where
    pub place_is : after.place ≡ place
    pub number_is : after.number ≡ before.number
    pub stands : StandsInLock before.number entries before.seen before.mine after.seen after.mine

  -- the pass granted q, whose coroutine this is, as its last entry
  pub record Names (co : CoId) (p q : ℕ) (after : Known T) : Type 0 where
    pub older : List (LockEntry T)
    pub last : after.seen ≡ Grant p q ∷ older
    pub named : co_id_word co ≡ coroutine_of q older

  -- an unlock: it granted nobody, or the one that it names
  abbrev pub Unlocks : T → Known T → Option CoId → Known T → Type 0
  Unlocks x before None after =
      Comes AtRest (Release before.number x ∷ []) before after
  Unlocks x before (Some co) after =
      (q : ℕ) × Comes AtRest (Grant before.number q ∷ Release before.number x ∷ []) before after × Names co before.number q after

  abbrev pub Queues : ℕ → Known T → Option CoId → Known T → Type 0
  Queues who before None after =
      Comes Queued (Wait before.number who ∷ []) before after
  Queues who before (Some co) after =
      (q : ℕ) × (q ≢ before.number) × Comes Queued (Grant before.number q ∷ Wait before.number who ∷ []) before after × Names co before.number q after

module _ {T N : Type 0} (note : T → ℕ → N) (built : T) where
  -- The pass holds: it found the value that is left by what it has now seen, and in it its own note as it left it.
  pub record HoldsNow (entries : List (LockEntry T)) (value : T) (before after : Known T) : Type 0 where
    pub comes : Comes Holds entries before after
    pub value_is : value ≡ value_of built after.seen
    pub noted : IsNoted note built after.seen
    pub own : note value before.number ≡ note (value_of built after.mine) before.number

  module _ {P : Type 0} where
    abbrev pub BeginsLock : Known T → Begun P T N → Known T → Type 0
    BeginsLock before (BeginsHeld guard) after =
        HoldsNow (Got before.number ∷ []) guard.value before after × ((after.did ≡ done LockedCompare locked_at 0 ∷ before.did) ⊎ ((w : ℕ) × (w ≢ 0) × (after.did ≡ done LockedFetchAdd locked_at 0 ∷ done LockedCompare locked_at w ∷ before.did)))
    BeginsLock before (Later waiting) after =
        (waiting.number ≡ before.number) × ((w : ℕ) × (more : ℕ) × (w ≢ 0) × (more ≢ 0) × (after ≡ advances before Counted (done LockedFetchAdd locked_at more ∷ done LockedCompare locked_at w ∷ [])))

    abbrev pub Finishes : ℕ → Known T → Lock P T N → Known T → Type 0
    Finishes who before (Held guard) after =
        HoldsNow (Grant before.number before.number ∷ Wait before.number who ∷ []) guard.value before after
    Finishes who before (Waits named) after = Queues who before named after

    abbrev pub Locks : ℕ → Known T → Lock P T N → Known T → Type 0
    Locks who before (Held guard) after =
        HoldsNow (Got before.number ∷ []) guard.value before after ⊎ HoldsNow (Grant before.number before.number ∷ Wait before.number who ∷ []) guard.value before after
    Locks who before (Waits named) after = Queues who before named after

    -- a resume: one swap of the grant word, which found 1 exactly where the pass now holds
    abbrev pub ResumesLock : Known T → Lock P T N → Known T → Type 0
    ResumesLock before (Held guard) after =
        HoldsNow [] guard.value before after × (after.did ≡ done GrantSwap (grant_at before.number) 1 ∷ before.did)
    ResumesLock before (Waits named) after =
        (named ≡ None) × (after ≡ moves before Queued (done GrantSwap (grant_at before.number) 0))
