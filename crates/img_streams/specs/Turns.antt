-- One turn of a pass at its lock: it holds the lock once, or goes on waiting for it.
use Rattle.std.specs.Prelude.{◌≡◌, ℕ, Bool, true, false, Option, None, List, [], ◌∷◌}
use Rattle.aio_model.specs.Lock.History.{LockEntry, Got, Wait, Grant, Release}
use Rattle.co_state.specs.declared.cx.CoId.{CoId}
use Rattle.co_mutex.specs.declared.answers.Lock.{Lock}
use Rattle.co_mutex.specs.declared.answers.Lock.TheVariants.{Held, Queued as Waits}
use Rattle.co_mutex.specs.LockWords.{grant_at}
use Rattle.co_mutex.specs.Places.{PassPlace, AtRest, Queued}
use Rattle.co_mutex.specs.Known.{GrantSwap, Known, moves}
use Rattle.co_mutex.specs.Plays.{done}
use Rattle.co_mutex.specs.Calls.{HoldsNow, Unlocks, Queues}

-- where a pass is between two turns
abbrev pub pass_place_of : Bool → PassPlace
pass_place_of false = AtRest
pass_place_of true = Queued

module _ {T : Type 0} where
  -- none of these entries gives the lock up
  abbrev pub KeepsLock : List (LockEntry T) → Type 0
  KeepsLock [] = Unit {0}
  KeepsLock (Got p ∷ older) = KeepsLock older
  KeepsLock (Wait p co ∷ older) = KeepsLock older
  KeepsLock (Grant p q ∷ older) = KeepsLock older
  KeepsLock (Release p x ∷ older) = ⊥

  -- it goes on waiting: it was pushed now, and may have granted another the lock, or it was pushed before and finds no grant
  abbrev pub GoesOnWaiting : Bool → ℕ → Option CoId → Known T → Known T → Type 0
  GoesOnWaiting false who named before after = Queues who before named after
  GoesOnWaiting true who named before after =
      (named ≡ None) × (after ≡ moves before Queued (done GrantSwap (grant_at before.number) 0))

module _ {T N : Type 0} (note : T → ℕ → N) (built : T) where
  -- The pass came to hold the lock, by entries none of which gave it up.
  pub record ComesToHold (found : T) (before after : Known T) : Type 0 where
    pub entries : List (LockEntry T)
    pub keeps : KeepsLock entries
    pub holds : HoldsNow note built entries found before after

  module _ {P : Type 0} where
    abbrev pub Reaches : Bool → ℕ → Known T → Lock P T N → Known T → Type 0
    Reaches queued who before (Held guard) after = ComesToHold guard.value before after
    Reaches queued who before (Waits named) after = GoesOnWaiting queued who named before after

  -- The pass held the lock once: it found the first value and left the second, and its unlock named this coroutine.
  pub record HoldsOnce (found left : T) (named : Option CoId) (before after : Known T) : Type 0 where
    pub within : Known T
    pub takes : ComesToHold found before within
    pub gives : Unlocks left within named after
