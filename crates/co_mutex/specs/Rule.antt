-- The rule of the lock's table, but for what each pass has seen: the words, the two slots and the places of all passes stand for
-- one legal history.
use Rattle.std.specs.Prelude.{◌≡◌, ◌≢◌, ℕ, ◌+◌, ◌<◌, ◌==◌, ◌&&◌, not, cond, Option, None, Some, List, [], ◌++◌, ◌⊎◌, length, reverse, slice_index}
use mathlib.Core.Option.{Option as Opt, none, some}
use lib.ListN.{get_elem?}
use Rattle.aio_chain.specs.Chains.{IsChain}
use Rattle.aio_model.specs.Lock.History.{LockEntry, IsWaitingIn, owner_of, waiters_of, coroutine_of, value_of, IsLegalLock}
use Rattle.co_mutex.specs.Places.{Side, Locking, Unlocking, Task, ToPop, Walking, Nobody, Granting, PassPlace, AtRest, Counted, Named, HeadLoaded, Linked, Pushed, Loaded, Queued, SelfGranted, Holds, OnDuty, Published, Found, is_in_line, is_before_push, is_holding, count, StillLooks, IsNumbered, pending}
use Rattle.co_mutex.specs.declared.slot.Slot.{Slot}
use Rattle.co_mutex.specs.declared.slot.Slot.TheVariants.{Value, Waiters}
use Rattle.co_mutex.specs.LockWords.{locked_at, handoff_at, head_at, grant_at, who_at, word_count, next_in}

-- with whom it lies to go on
pub data Baton : Type 0 where
  Free : Baton
  Owned : ℕ → Baton
  Duty : ℕ → Baton
  Offered : Baton

-- the popped list as a slot has it, with room for all passes
abbrev pub Popped : {T : Type 0} → List ℕ → ℕ → Slot T
Popped waiting last = Waiters (record { waiting = waiting; last = last; room = 64 })

abbrev pub EachPlace : (ℕ → PassPlace → Type 0) → List PassPlace → Type 0
EachPlace P places = (p : ℕ) (place : PassPlace) → get_elem? places p ≡ some place → P p place

-- Counts.

abbrev pub one_if : Option ℕ → ℕ
one_if None = 0
one_if (Some p) = 1

abbrev pub owner_in : Baton → Option ℕ
owner_in Free = None
owner_in (Owned p) = Some p
owner_in (Duty p) = None
owner_in Offered = None

abbrev pub Fit : Baton → ℕ → ℕ → Type 0
Fit Free locked handoff = (locked ≡ 0) × (handoff ≡ 0)
Fit (Owned p) locked handoff = (0 < locked) × (handoff ≡ 0)
Fit (Duty p) locked handoff = (0 < locked) × (handoff ≡ 0)
Fit Offered locked handoff = (0 < locked) × (handoff ≢ 0)

-- Grant words.

abbrev pub grant_word : Baton → ℕ → PassPlace → ℕ
grant_word Free p place = 0
grant_word (Owned q) p place = cond (q == p && not (is_holding place)) 1 0
grant_word (Duty q) p place = 0
grant_word Offered p place = 0

abbrev pub GrantsStand : List ℕ → List PassPlace → Baton → Type 0
GrantsStand words places baton = EachPlace (λ p place. slice_index words (grant_at p) ≡ grant_word baton p place) places

abbrev pub IsTask : (ℕ → ℕ) → Task → Type 0
IsTask next (ToPop popped) = Unit {0}
IsTask next (Walking word left found) = (0 < word) × IsChain next word left
IsTask next Nobody = Unit {0}
IsTask next (Granting q co rest) = Unit {0}

abbrev pub LinkStands : List ℕ → ℕ → PassPlace → Type 0
LinkStands words p (Linked co found) = next_in words p ≡ found
LinkStands words p _ = Unit {0}

-- Looking.

pub record LooksStand (handoff : ℕ) (places : List PassPlace) (baton : Baton) : Type 0 where
  pub numbered : EachPlace (λ p place. IsNumbered place) places
  pub looker : baton ≡ Offered → (p : ℕ) × (place : PassPlace) × (get_elem? places p ≡ some place) × StillLooks handoff place

module _ {T : Type 0} where
  pub record CountsStand (h : List (LockEntry T)) (locked : ℕ) (places : List PassPlace) : Type 0 where
    pub line : locked ≡ count is_in_line places
    pub parts : locked ≡ one_if (owner_of h) + length (waiters_of h) + count is_before_push places

  -- The baton.

  -- where each pass stands in the history
  abbrev pub IsApart : List (LockEntry T) → Baton → ℕ → Type 0
  IsApart h baton p = ¬ (IsWaitingIn p (waiters_of h)) × (baton ≢ Owned p)

  abbrev pub IsAt : List (LockEntry T) → Baton → ℕ → PassPlace → Type 0
  IsAt h baton p AtRest = IsApart h baton p
  IsAt h baton p Counted = IsApart h baton p
  IsAt h baton p (Named co) = IsApart h baton p
  IsAt h baton p (HeadLoaded co found) = IsApart h baton p
  IsAt h baton p (Linked co found) = IsApart h baton p
  IsAt h baton p Pushed = IsWaitingIn p (waiters_of h) ⊎ (baton ≡ Owned p)
  IsAt h baton p (Loaded n) = IsWaitingIn p (waiters_of h) ⊎ (baton ≡ Owned p)
  IsAt h baton p Queued = IsWaitingIn p (waiters_of h) ⊎ (baton ≡ Owned p)
  IsAt h baton p SelfGranted = baton ≡ Owned p
  IsAt h baton p Holds = baton ≡ Owned p
  IsAt h baton p (OnDuty Locking task) = (baton ≡ Duty p) × IsWaitingIn p (waiters_of h)
  IsAt h baton p (OnDuty Unlocking task) = (baton ≡ Duty p) × ¬ (IsWaitingIn p (waiters_of h))
  IsAt h baton p (Published n) = IsApart h baton p
  IsAt h baton p (Found n) = IsApart h baton p

  pub record BatonStands (h : List (LockEntry T)) (locked handoff : ℕ) (places : List PassPlace) (baton : Baton) : Type 0 where
    pub owner : owner_of h ≡ owner_in baton
    pub fit : Fit baton locked handoff
    pub each : EachPlace (IsAt h baton) places

  -- The value.

  abbrev pub ValueStands : T → List (LockEntry T) → List (Opt (Slot T)) → List PassPlace → Type 0
  ValueStands built h homes places =
      ((p : ℕ) × (get_elem? places p ≡ some Holds) × (get_elem? homes 0 ≡ some none))
      ⊎ (EachPlace (λ p place. place ≢ Holds) places × (get_elem? homes 0 ≡ some (some (Value (value_of built h)))))

  -- The lists.

  -- the popped list is at home
  pub record IsHome (h : List (LockEntry T)) (homes : List (Opt (Slot T))) (stack : List ℕ) : Type 0 where
    pub popped : List ℕ
    pub last : ℕ
    pub there : get_elem? homes 1 ≡ some (some (Popped popped last))
    pub waiters : waiters_of h ≡ popped ++ reverse stack

  -- or it is with this pass
  pub record IsWith (p : ℕ) (h : List (LockEntry T)) (words : List ℕ) (homes : List (Opt (Slot T))) (places : List PassPlace) (stack : List ℕ) : Type 0 where
    pub side : Side
    pub task : Task
    pub place : get_elem? places p ≡ some (OnDuty side task)
    pub gone : get_elem? homes 1 ≡ some none
    pub tasked : IsTask (next_in words) task
    pub waiters : waiters_of h ≡ pending task ++ reverse stack

  abbrev pub ListIs : Baton → List (LockEntry T) → List ℕ → List (Opt (Slot T)) → List PassPlace → List ℕ → Type 0
  ListIs Free h words homes places stack = IsHome h homes stack
  ListIs (Owned p) h words homes places stack = IsHome h homes stack
  ListIs (Duty p) h words homes places stack = IsWith p h words homes places stack
  ListIs Offered h words homes places stack = (home : IsHome h homes stack) × (home.popped ≡ [])

  pub record ListsStand (h : List (LockEntry T)) (words : List ℕ) (homes : List (Opt (Slot T))) (places : List PassPlace) (baton : Baton) (stack : List ℕ) : Type 0 where
    pub chain : IsChain (next_in words) (slice_index words head_at) stack
    pub list : ListIs baton h words homes places stack
    pub linked : EachPlace (LinkStands words) places

  -- Names.

  abbrev pub NameStands : List (LockEntry T) → List ℕ → ℕ → PassPlace → Type 0
  NameStands h words p (Named co) = slice_index words (who_at p) ≡ co
  NameStands h words p (HeadLoaded co found) = slice_index words (who_at p) ≡ co
  NameStands h words p (Linked co found) = slice_index words (who_at p) ≡ co
  NameStands h words p (OnDuty side (Granting q co rest)) = co ≡ coroutine_of q h
  NameStands h words p _ = Unit {0}

  pub record NamesStand (h : List (LockEntry T)) (words : List ℕ) (places : List PassPlace) : Type 0 where
    pub waiting : (q : ℕ) → IsWaitingIn q (waiters_of h) → slice_index words (who_at q) ≡ coroutine_of q h
    pub each : EachPlace (NameStands h words) places

  -- The whole.

  pub record Stands (passes : ℕ) (built : T) (h : List (LockEntry T)) (words : List ℕ) (homes : List (Opt (Slot T))) (places : List PassPlace) (baton : Baton) (stack : List ℕ) : Type 0 where
    pub long : length words ≡ word_count passes
    pub each : length places ≡ passes
    pub legal : IsLegalLock h
    pub below : (q : ℕ) → IsWaitingIn q (waiters_of h) → q < passes
    pub counts : CountsStand h (slice_index words locked_at) places
    pub baton_stands : BatonStands h (slice_index words locked_at) (slice_index words handoff_at) places baton
    pub grants : GrantsStand words places baton
    pub value : ValueStands built h homes places
    pub lists : ListsStand h words homes places baton stack
    pub names : NamesStand h words places
    pub looks : LooksStand (slice_index words handoff_at) places baton
