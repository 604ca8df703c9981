-- What the parts of a wake leave: the steps that were done, and whom the pass granted.
use Rattle.std.specs.Prelude.{◌≡◌, ℕ, ◌<◌, ◌==◌, ◌&&◌, not, Bool, true, false, List, [], ◌∷◌, MatchBool}
use Rattle.atomic_table.specs.Table.{Me}
use Rattle.aio_model.specs.Lock.History.{LockEntry, Wait, Grant, coroutine_of}
use Rattle.co_mutex.specs.Lists.{Each}
use Rattle.co_mutex.specs.declared.slot.Slot.{Slot}
use Rattle.co_mutex.specs.declared.slot.Slot.TheVariants.{Out}
use Rattle.co_mutex.specs.LockWords.{head_at, grant_at, who_at}
use Rattle.co_mutex.specs.Places.{Side, Locking, Unlocking, ToPop, AtRest, Pushed, Queued, OnDuty, after_grant}
use Rattle.co_mutex.specs.Rule.{Popped}
use Rattle.co_mutex.specs.Known.{Kind, WhoStore, HeadLoad, NextStore, HeadCompare, HeadSwap, NextLoad, WhoLoad, GrantStore, HandoffLoad, HandoffStore, HandoffCompare, SecondLook, Done, Known, advances}
use Rattle.co_mutex.specs.Plays.{done, Makes}

-- the kinds of step by which a pass looks for a waiter
abbrev pub looks_for : Kind → Bool
looks_for HeadSwap = true
looks_for NextLoad = true
looks_for HandoffStore = true
looks_for SecondLook = true
looks_for HandoffCompare = true
looks_for _ = false

-- those of a locker, which never publishes
abbrev pub walks : Kind → Bool
walks HeadSwap = true
walks NextLoad = true
walks _ = false

-- the kinds of step by which a pass pushes
abbrev pub pushes : Kind → Bool
pushes WhoStore = true
pushes HeadLoad = true
pushes NextStore = true
pushes HeadCompare = true
pushes _ = false

-- the kinds of step by which a pushed pass looks at the hand-off
abbrev pub takes_up : Kind → Bool
takes_up HandoffLoad = true
takes_up HandoffCompare = true
takes_up _ = false

-- a number that was published isn't 0
abbrev pub is_numbered : Kind → ℕ → Bool
is_numbered HandoffStore number = not (number == 0)
is_numbered _ number = true

-- all are of kinds that pass
abbrev pub AllOfKinds : (Kind → Bool) → List Done → Type 0
AllOfKinds test [] = Unit {0}
AllOfKinds test (step ∷ steps) =
    ((test step.kind && is_numbered step.kind step.found) ≡ true) × AllOfKinds test steps

module _ {T : Type 0} where
  -- the pass loaded the coroutine of q, granted it and has nothing in hand
  abbrev pub Granted : Side → ℕ → ℕ → Known T → Me (Slot T) (Known T) → Type 0
  Granted side q who v after =
      (older : List (LockEntry T)) × Makes (Grant v.number q) (after_grant side v.number q) (done GrantStore (grant_at q) 1) older [] (advances v v.place (done WhoLoad (who_at q) who ∷ [])) after × (who ≡ coroutine_of q older)

  -- the hand-off was published: it was taken back, or not
  pub record Offered (taken : Bool) (v : Known T) (after : Me (Slot T) (Known T)) : Type 0 where
    pub steps : List Done
    pub kinds : AllOfKinds looks_for steps
    pub is : MatchBool taken ((last : ℕ) × (after ≡ (advances v (OnDuty Unlocking (ToPop [])) steps, (1, Popped [] last) ∷ []))) (after ≡ (advances v AtRest steps, []))

  -- a pushed pass looked at the hand-off: it took it, or is queued
  pub record LooksAtHandOff (taken : Bool) (v : Known T) (after : Me (Slot T) (Known T)) : Type 0 where
    pub steps : List Done
    pub kinds : AllOfKinds takes_up steps
    pub is : MatchBool taken ((last : ℕ) × (after ≡ (advances v (OnDuty Locking (ToPop [])) steps, (1, Popped [] last) ∷ []))) (after ≡ (advances v Queued steps, []))

  -- the pushed list was walked, and the first of the waiters is a pass
  pub record WalkedPasses (side : Side) (v : Known T) (waiting : List ℕ) (after : Me (Slot T) (Known T)) : Type 0 where
    pub steps : List Done
    pub kinds : AllOfKinds walks steps
    pub q : ℕ
    pub rest : List ℕ
    pub some_one : waiting ≡ q ∷ rest
    pub low : Each (λ k. k < v.passes) waiting
    pub is : after ≡ (advances v (OnDuty side (ToPop waiting)) steps, (1, Out) ∷ [])

  -- the pass was pushed
  pub record PushedFor (who : ℕ) (v : Known T) (after : Me (Slot T) (Known T)) : Type 0 where
    pub older : List (LockEntry T)
    pub found : ℕ
    pub steps : List Done
    pub kinds : AllOfKinds pushes steps
    pub makes : Makes (Wait v.number who) Pushed (done HeadCompare head_at found) older [] (advances v v.place steps) after

  -- a locker with the duty granted q, as the first of all who wait
  pub record WokePass (q who : ℕ) (v : Known T) (after : Me (Slot T) (Known T)) : Type 0 where
    pub steps : List Done
    pub kinds : AllOfKinds walks steps
    pub granted : Granted Locking q who (advances v v.place steps) after
