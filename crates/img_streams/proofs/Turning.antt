-- What a pass knows after a turn at the lock.
use Rattle.std.proofs.Common.{◌≡◌, ◌≢◌, ℕ, Bool, true, false, Option, Some, None, List, [], ◌∷◌, ◌++◌, refl, sym, ap, ◌∙◌, subst}
use Rattle.aio_model.specs.Lock.History.{LockEntry, Got, Wait, Grant, Release, value_of}
use Rattle.aio_model.specs.Lock.Notes.{SameNotes}
use Rattle.co_state.specs.declared.cx.CoId.{CoId}
use Rattle.co_mutex.specs.Places.{AtRest, Queued}
use Rattle.co_mutex.specs.Known.{Known}
use Rattle.co_mutex.specs.Calls.{Comes, Unlocks}
use Rattle.img_streams.specs.Turns.{KeepsLock, GoesOnWaiting, ComesToHold, HoldsOnce}

module _ {T : Type 0} (built : T) where
  -- entries that don't give the lock up leave its value
  pub value_kept : (entries older : List (LockEntry T)) → KeepsLock entries → value_of built (entries ++ older) ≡ value_of built older
  value_kept [] older keeps = refl
  value_kept (Got p ∷ entries) older keeps = value_kept entries older keeps
  value_kept (Wait p co ∷ entries) older keeps = value_kept entries older keeps
  value_kept (Grant p q ∷ entries) older keeps = value_kept entries older keeps
  value_kept (Release p x ∷ entries) older keeps = absurd keeps

  -- where a pass is, and what it last left
  pub record Knows (before after : Known T) : Type 0 where
    pub number : after.number ≡ before.number
    pub value : value_of built after.mine ≡ value_of built before.mine

  from_comes : {place : _} {entries : List (LockEntry T)} → (v w : Known T) → Comes place entries v w → KeepsLock entries → Knows v w
  from_comes {place} {entries} v w comes keeps = record {
    number = comes.number_is;
    value = ap (value_of built) comes.stands.mine_grows ∙ value_kept entries v.mine keeps;
  }

  pub waiting_knows : (queued : Bool) (who : ℕ) (named : Option CoId) (v w : Known T) → GoesOnWaiting queued who named v w → Knows v w
  waiting_knows false who None v w goes = from_comes v w goes tt
  waiting_knows false who (Some co) v w goes = from_comes v w goes.2 tt
  waiting_knows true who named v w goes = record { number = ap (λ (k : Known T). k.number) goes.1; value = ap (λ (k : Known T). value_of built k.mine) goes.1 }

  pub waiting_place : (queued : Bool) (who : ℕ) (named : Option CoId) (v w : Known T) → GoesOnWaiting queued who named v w → w.place ≡ Queued
  waiting_place false who None v w goes = goes.place_is
  waiting_place false who (Some co) v w goes = goes.2.place_is
  waiting_place true who named v w goes = ap (λ (k : Known T). k.place) goes.1

  unlocked_value : (x : T) (named : Option CoId) (v w : Known T) → Unlocks x v named w → value_of built w.mine ≡ x
  unlocked_value x None v w gives = ap (value_of built) gives.stands.mine_grows
  unlocked_value x (Some co) v w gives = ap (value_of built) gives.1.stands.mine_grows

  unlocked_number : (x : T) (named : Option CoId) (v w : Known T) → Unlocks x v named w → w.number ≡ v.number
  unlocked_number x None v w gives = gives.number_is
  unlocked_number x (Some co) v w gives = gives.1.number_is

  unlocked_place : (x : T) (named : Option CoId) (v w : Known T) → Unlocks x v named w → w.place ≡ AtRest
  unlocked_place x None v w gives = gives.place_is
  unlocked_place x (Some co) v w gives = gives.1.place_is

module _ {T N : Type 0} (note : T → ℕ → N) (built : T) where
  pub takes_knows : (found : T) (v w : Known T) → ComesToHold note built found v w → Knows built v w
  takes_knows found v w takes = from_comes built v w takes.holds.comes takes.keeps

  -- it finds its own note as it left it
  pub takes_own : (found : T) (v w : Known T) → ComesToHold note built found v w → note found v.number ≡ note (value_of built v.mine) v.number
  takes_own found v w takes = takes.holds.own ∙ ap (λ (x : T). note x v.number) (takes_knows found v w takes).value

  -- who leaves all notes but one as they were may unlock
  pub may_unlock : (stream : ℕ) (found left : T) (v w : Known T) → ComesToHold note built found v w → v.number ≡ stream
      → ((k : ℕ) → k ≢ stream → note left k ≡ note found k)
      → SameNotes note w.number (value_of built w.seen) left
  may_unlock stream found left v w takes number others k other =
      others k (λ e. other (e ∙ sym number ∙ sym takes.holds.comes.number_is)) ∙ ap (λ (x : T). note x k) takes.holds.value_is

  pub once_left : (found left : T) (named : Option CoId) (v w : Known T) → HoldsOnce note built found left named v w → value_of built w.mine ≡ left
  once_left found left named v w once = unlocked_value built left named once.within w once.gives

  pub once_number : (found left : T) (named : Option CoId) (v w : Known T) → HoldsOnce note built found left named v w → w.number ≡ v.number
  once_number found left named v w once =
      unlocked_number built left named once.within w once.gives ∙ once.takes.holds.comes.number_is

  pub once_place : (found left : T) (named : Option CoId) (v w : Known T) → HoldsOnce note built found left named v w → w.place ≡ AtRest
  once_place found left named v w once = unlocked_place built left named once.within w once.gives

  pub takes_same : (x y : T) (v w : Known T) → y ≡ x → ComesToHold note built x v w → ComesToHold note built y v w
  takes_same x y v w e takes = subst (λ (z : T). ComesToHold note built z v w) (sym e) takes
