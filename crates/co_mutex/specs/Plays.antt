-- What each step tells, by the place of the pass.
use Rattle.std.specs.Prelude.{◌≡◌, ℕ, ◌+◌, ◌<◌, ◌≤◌, ◌==◌, Some, List, [], ◌∷◌, length, MatchBool, cond}
use Rattle.atomic_table.specs.Table.{Me, Step}
use Rattle.aio_model.specs.Lock.History.{LockEntry, Got, Wait, Grant, Release, owner_of, coroutine_of, value_of, IsLegalLock}
use Rattle.aio_model.specs.Lock.Notes.{IsNoted}
use Rattle.co_mutex.specs.Lists.{Each}
use Rattle.co_mutex.specs.declared.slot.Slot.{Slot}
use Rattle.co_mutex.specs.declared.slot.Slot.TheVariants.{Value}
use Rattle.co_mutex.specs.LockWords.{locked_at, handoff_at, head_at}
use Rattle.co_mutex.specs.Places.{Side, Locking, Unlocking, PassPlace, ToPop, Walking, Nobody, Granting, AtRest, Counted, Named, HeadLoaded, Linked, Pushed, Loaded, Queued, SelfGranted, Holds, OnDuty, Published, Found, after_grant}
use Rattle.co_mutex.specs.Rule.{Popped}
use Rattle.co_mutex.specs.Known.{Kind, LockedCompare, LockedFetchAdd, LockedFetchSub, WhoStore, HeadLoad, NextStore, HeadCompare, HeadSwap, NextLoad, WhoLoad, GrantStore, GrantSwap, HandoffLoad, HandoffStore, HandoffCompare, SecondLook, Done, Known, moves, learns, makes, KnownGoesOn}

abbrev pub done : Kind → ℕ → ℕ → Done
done kind word found = record { kind = kind; word = word; found = found }

module _ {T : Type 0} where
  abbrev pub Is : Me (Slot T) (Known T) → Me (Slot T) (Known T) → Type 0
  Is after me = after ≡ me

  -- A pass makes an entry over this history.
  pub record Makes (entry : LockEntry T) (place : PassPlace) (done : Done) (older : List (LockEntry T)) (hand : List (ℕ × Slot T)) (before : Known T) (after : Me (Slot T) (Known T)) : Type 0 where
    pub is : after ≡ (makes before place done older entry, hand)
    pub goes : KnownGoesOn before older
    pub legal : IsLegalLock (entry ∷ older)

  -- The sub: at 1 the pass is at rest, and else it has the duty, and the popped list in hand.
  pub record LeftAlone (x : T) (found : ℕ) (v : Known T) (after : Me (Slot T) (Known T)) : Type 0 where
    pub older : List (LockEntry T)
    pub makes : Makes (Release v.number x) AtRest (done LockedFetchSub locked_at found) older [] v after

  pub record LeftOthers (x : T) (found : ℕ) (v : Known T) (after : Me (Slot T) (Known T)) : Type 0 where
    pub older : List (LockEntry T)
    pub popped : List ℕ
    pub last : ℕ
    pub makes : Makes (Release v.number x) (OnDuty Unlocking (ToPop popped)) (done LockedFetchSub locked_at found) older ((1, Popped popped last) ∷ []) v after
    pub low : Each (λ q. q < v.passes) popped

  abbrev pub subbed : Step (Slot T) → Me (Slot T) (Known T) → ℕ → Me (Slot T) (Known T) → Type 0
  subbed step before found after =
      (x : T) → before.1 ≡ (0, Value x) ∷ [] → MatchBool (found == 1) (LeftAlone x found before.0 after) (LeftOthers x found before.0 after)

  -- The steps that push.
  abbrev pub stored_who : Step (Slot T) → Me (Slot T) (Known T) → ℕ → Me (Slot T) (Known T) → Type 0
  stored_who step before found after =
      Is after (moves before.0 (Named step.first) (done WhoStore step.word found), before.1)

  abbrev pub heads_at : PassPlace → Me (Slot T) (Known T) → ℕ → Me (Slot T) (Known T) → Type 0
  heads_at (Named co) before found after =
      Is after (moves before.0 (HeadLoaded co found) (done HeadLoad head_at found), before.1)
  heads_at _ before found after = Unit {0}

  abbrev pub loaded_head : Step (Slot T) → Me (Slot T) (Known T) → ℕ → Me (Slot T) (Known T) → Type 0
  loaded_head step before found after = heads_at before.0.place before found after

  abbrev pub links_at : PassPlace → ℕ → Me (Slot T) (Known T) → ℕ → Me (Slot T) (Known T) → Type 0
  links_at (HeadLoaded co head) word before found after =
      Is after (moves before.0 (Linked co head) (done NextStore word found), before.1)
  links_at _ word before found after = Unit {0}

  abbrev pub stored_next : Step (Slot T) → Me (Slot T) (Known T) → ℕ → Me (Slot T) (Known T) → Type 0
  stored_next step before found after = links_at before.0.place step.word before found after

  pub record Pushes (co found : ℕ) (before after : Me (Slot T) (Known T)) : Type 0 where
    pub older : List (LockEntry T)
    pub makes : Makes (Wait before.0.number co) Pushed (done HeadCompare head_at found) older before.1 before.0 after

  abbrev pub pushes_at : PassPlace → Me (Slot T) (Known T) → ℕ → Me (Slot T) (Known T) → Type 0
  pushes_at (Linked co head) before found after =
      MatchBool (found == head) (Pushes co found before after) (Is after (moves before.0 (Named co) (done HeadCompare head_at found), before.1))
  pushes_at _ before found after = Unit {0}

  abbrev pub compared_head : Step (Slot T) → Me (Slot T) (Known T) → ℕ → Me (Slot T) (Known T) → Type 0
  compared_head step before found after = pushes_at before.0.place before found after

  -- The hand-off as a locker finds it.
  abbrev pub loaded_handoff : Step (Slot T) → Me (Slot T) (Known T) → ℕ → Me (Slot T) (Known T) → Type 0
  loaded_handoff step before found after =
      Is after (moves before.0 (cond (found == 0) Queued (Loaded found)) (done HandoffLoad handoff_at found), before.1)

  pub record TakesDuty (side : Side) (found : ℕ) (v : Known T) (after : Me (Slot T) (Known T)) : Type 0 where
    pub last : ℕ
    pub is : after ≡ (moves v (OnDuty side (ToPop [])) (done HandoffCompare handoff_at found), (1, Popped [] last) ∷ [])

  abbrev pub takes_at : PassPlace → Me (Slot T) (Known T) → ℕ → Me (Slot T) (Known T) → Type 0
  takes_at (Loaded k) before found after =
      MatchBool (found == k) (TakesDuty Locking found before.0 after) (Is after (moves before.0 Queued (done HandoffCompare handoff_at found), []))
  takes_at (Found k) before found after =
      MatchBool (found == k) (TakesDuty Unlocking found before.0 after) (Is after (moves before.0 AtRest (done HandoffCompare handoff_at found), []))
  takes_at _ before found after = Unit {0}

  abbrev pub compared_handoff : Step (Slot T) → Me (Slot T) (Known T) → ℕ → Me (Slot T) (Known T) → Type 0
  compared_handoff step before found after = takes_at before.0.place before found after

  -- The duty: a word that leads to a pass, or to none.
  pub record Swaps (side : Side) (before : Me (Slot T) (Known T)) (found : ℕ) (after : Me (Slot T) (Known T)) : Type 0 where
    pub more : found ≤ before.0.passes
    pub is : MatchBool (found == 0) ((side ≡ Unlocking) × Is after (moves before.0 (OnDuty side Nobody) (done HeadSwap head_at found), before.1)) ((left : List ℕ) × Is after (moves before.0 (OnDuty side (Walking found left [])) (done HeadSwap head_at found), before.1))

  abbrev pub swaps_at : PassPlace → Me (Slot T) (Known T) → ℕ → Me (Slot T) (Known T) → Type 0
  swaps_at (OnDuty side task) before found after = Swaps side before found after
  swaps_at _ before found after = Unit {0}

  abbrev pub swapped_head : Step (Slot T) → Me (Slot T) (Known T) → ℕ → Me (Slot T) (Known T) → Type 0
  swapped_head step before found after = swaps_at before.0.place before found after

  pub record Loads (side : Side) (word : ℕ) (list : List ℕ) (at : ℕ) (before : Me (Slot T) (Known T)) (found : ℕ) (after : Me (Slot T) (Known T)) : Type 0 where
    pub q : ℕ
    pub word_is : word ≡ q + 1
    pub below : q < before.0.passes
    pub room : length list < 64
    pub more : found ≤ before.0.passes
    pub is : MatchBool (found == 0) (Is after (moves before.0 (OnDuty side (ToPop (q ∷ list))) (done NextLoad at found), before.1)) ((left : List ℕ) × Is after (moves before.0 (OnDuty side (Walking found left (q ∷ list))) (done NextLoad at found), before.1))

  abbrev pub loads_at : PassPlace → ℕ → Me (Slot T) (Known T) → ℕ → Me (Slot T) (Known T) → Type 0
  loads_at (OnDuty side (Walking word left list)) at before found after =
      Loads side word list at before found after
  loads_at _ at before found after = Unit {0}

  abbrev pub loaded_next : Step (Slot T) → Me (Slot T) (Known T) → ℕ → Me (Slot T) (Known T) → Type 0
  loaded_next step before found after = loads_at before.0.place step.word before found after

  abbrev pub names_at : PassPlace → ℕ → Me (Slot T) (Known T) → ℕ → Me (Slot T) (Known T) → Type 0
  names_at (OnDuty side (ToPop (q ∷ rest))) at before found after =
      Is after (moves before.0 (OnDuty side (Granting q found rest)) (done WhoLoad at found), before.1)
  names_at _ at before found after = Unit {0}

  abbrev pub loaded_who : Step (Slot T) → Me (Slot T) (Known T) → ℕ → Me (Slot T) (Known T) → Type 0
  loaded_who step before found after = names_at before.0.place step.word before found after

  -- The pass grants the waiter, whose coroutine this is.
  pub record Grants (side : Side) (q co at : ℕ) (v : Known T) (after : Me (Slot T) (Known T)) : Type 0 where
    pub older : List (LockEntry T)
    pub makes : Makes (Grant v.number q) (after_grant side v.number q) (done GrantStore at 1) older [] v after
    pub named : co ≡ coroutine_of q older

  abbrev pub grants_at : PassPlace → ℕ → Known T → Me (Slot T) (Known T) → Type 0
  grants_at (OnDuty side (Granting q co rest)) at v after = Grants side q co at v after
  grants_at _ at v after = Unit {0}

  abbrev pub stored_grant : Step (Slot T) → Me (Slot T) (Known T) → ℕ → Me (Slot T) (Known T) → Type 0
  stored_grant step before found after = grants_at before.0.place step.word before.0 after

  abbrev pub stored_number : Step (Slot T) → Me (Slot T) (Known T) → ℕ → Me (Slot T) (Known T) → Type 0
  stored_number step before found after =
      Is after (moves before.0 (Published step.first) (done HandoffStore handoff_at found), [])

  abbrev pub looks_at : PassPlace → Me (Slot T) (Known T) → ℕ → Me (Slot T) (Known T) → Type 0
  looks_at (Published k) before found after =
      Is after (moves before.0 (cond (found == 0) AtRest (Found k)) (done SecondLook head_at found), before.1)
  looks_at _ before found after = Unit {0}

  abbrev pub looked : Step (Slot T) → Me (Slot T) (Known T) → ℕ → Me (Slot T) (Known T) → Type 0
  looked step before found after = looks_at before.0.place before found after

-- The steps by which a pass gets the lock, with the value that is left.
module _ {T N : Type 0} (note : T → ℕ → N) where
  pub record Gets (kind : Kind) (built : T) (before after : Me (Slot T) (Known T)) : Type 0 where
    pub older : List (LockEntry T)
    pub makes : Makes (Got before.0.number) Holds (done kind locked_at 0) older ((0, Value (value_of built older)) ∷ []) before.0 after
    pub noted : IsNoted note built older

  abbrev pub compared_locked : Step (Slot T) → Me (Slot T) (Known T) → ℕ → Me (Slot T) (Known T) → Type 0
  compared_locked step before found after =
      (built : T) → before.0.opened ≡ Some built → MatchBool (found == 0) (Gets LockedCompare built before after) (Is after (moves before.0 AtRest (done LockedCompare locked_at found), []))

  abbrev pub added_locked : Step (Slot T) → Me (Slot T) (Known T) → ℕ → Me (Slot T) (Known T) → Type 0
  added_locked step before found after =
      (built : T) → before.0.opened ≡ Some built → MatchBool (found == 0) (Gets LockedFetchAdd built before after) (Is after (moves before.0 Counted (done LockedFetchAdd locked_at found), []))

  -- a swap that found the grant: the lock is the pass's by a grant that is now seen
  pub record FindsGrant (at : ℕ) (built : T) (before after : Me (Slot T) (Known T)) : Type 0 where
    pub all : List (LockEntry T)
    pub is : after ≡ (learns before.0 Holds (done GrantSwap at 1) all, (0, Value (value_of built all)) ∷ [])
    pub goes : KnownGoesOn before.0 all
    pub owner : owner_of all ≡ Some before.0.number
    pub noted : IsNoted note built all

  -- one that found its own grant: nothing more is seen
  pub record TakesOwn (at : ℕ) (built : T) (before after : Me (Slot T) (Known T)) : Type 0 where
    pub is : after ≡ (moves before.0 Holds (done GrantSwap at 1), (0, Value (value_of built before.0.seen)) ∷ [])
    pub noted : IsNoted note built before.0.seen

  abbrev pub finds_at : PassPlace → ℕ → T → Me (Slot T) (Known T) → ℕ → Me (Slot T) (Known T) → Type 0
  finds_at Queued at built before found after =
      MatchBool (found == 1) (FindsGrant at built before after) ((found ≡ 0) × Is after (moves before.0 Queued (done GrantSwap at 0), []))
  finds_at SelfGranted at built before found after =
      (found ≡ 1) × TakesOwn at built before after
  finds_at _ at built before found after = Unit {0}

  abbrev pub swapped_grant : Step (Slot T) → Me (Slot T) (Known T) → ℕ → Me (Slot T) (Known T) → Type 0
  swapped_grant step before found after =
      (built : T) → before.0.opened ≡ Some built → finds_at before.0.place step.word built before found after
