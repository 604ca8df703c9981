-- With whom a lock that is counted as taken lies to go on.
use Rattle.std.specs.Prelude.{◌≡◌, ◌≢◌, ℕ, Bool, true, false, Some, None, List, ◌⊎◌}
use mathlib.Core.Option.{some}
use lib.ListN.{get_elem?}
use Rattle.aio_model.specs.Lock.History.{LockEntry, owner_of}
use Rattle.co_mutex.specs.Places.{Side, Task, PassPlace, AtRest, Queued, Holds, OnDuty, StillLooks}

-- where a pass stands between two calls, unless it is counted and still to be queued
abbrev pub is_between : PassPlace → Bool
is_between AtRest = true
is_between Queued = true
is_between Holds = true
is_between _ = false

module _ {T : Type 0} (h : List (LockEntry T)) (handoff : ℕ) (places : List PassPlace) where
  -- no pass has the duty to grant
  abbrev pub HasNoDuty : Type 0
  HasNoDuty =
      (p : ℕ) (side : Side) (task : Task) → get_elem? places p ≡ some (OnDuty side task) → ⊥

  -- it has an owner
  pub record HasOwner : Type 0 where
    pub owner : ℕ
    pub owns : owner_of h ≡ Some owner
    pub idle : HasNoDuty
    pub unpublished : handoff ≡ 0

  -- one pass, and no other, has the duty to grant
  pub record HasDuty : Type 0 where
    pub p : ℕ
    pub side : Side
    pub task : Task
    pub there : get_elem? places p ≡ some (OnDuty side task)
    pub only : (q : ℕ) (side2 : Side) (task2 : Task) → get_elem? places q ≡ some (OnDuty side2 task2) → q ≡ p
    pub unowned : owner_of h ≡ None
    pub unpublished : handoff ≡ 0

  -- a hand-off is published, at which some pass has still to look
  pub record IsOffered : Type 0 where
    pub published : handoff ≢ 0
    pub unowned : owner_of h ≡ None
    pub idle : HasNoDuty
    pub looker : (p : ℕ) × (place : PassPlace) × (get_elem? places p ≡ some place) × StillLooks handoff place

  abbrev pub HasNext : Type 0
  HasNext = HasOwner ⊎ HasDuty ⊎ IsOffered
