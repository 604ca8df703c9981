-- What the steps of the duty tell, and that a pass stays what it is.
use Rattle.std.proofs.Common.{◌≡◌, ℕ, ◌+◌, ◌-◌, ◌%◌, ◌^◌, Bool, true, false, eqb, cond, MatchBool, List, [], ◌∷◌, refl, sym, ap, ◌∙◌, subst}
use mathlib.Core.Option.{none}
use Rattle.atomic_table.specs.Table.{step, Allows, rest}
use Rattle.co_mutex.specs.declared.slot.Slot.{Slot}
use Rattle.co_mutex.specs.declared.slot.Slot.TheVariants.{Value, Waiters, Out}
use Rattle.aio_model.specs.Lock.History.{value_of}
use Rattle.aio_model.specs.Lock.Notes.{SameNotes}
use Rattle.co_mutex.specs.LockWords.{locked_at, head_at, next_at, grant_at, who_at}
use Rattle.co_mutex.specs.Places.{Side, ToPop, Walking, Nobody, Granting, PassPlace, AtRest, Holds, OnDuty, Published, Found}
use Rattle.co_mutex.specs.Rule.{Popped}
use Rattle.co_mutex.specs.Known.{HeadSwap, NextLoad, WhoLoad, SecondLook, Known, moves}
use Rattle.co_mutex.specs.PoppedList.{PoppedList}
use Rattle.co_mutex.specs.Waking.{Granted}
use Rattle.co_mutex.specs.Seats.{Kept}
use Rattle.co_mutex.specs.Plays.{done, Is, LeftAlone, LeftOthers, subbed, Swaps, Loads, loads_at, loaded_next, names_at, loaded_who, Grants, grants_at, stored_grant, looks_at}
use Rattle.co_mutex.proofs.OwnerSteps.{sub_step}
use Rattle.co_mutex.proofs.WakeSteps.{next_step, who_step, grant_step}
use Rattle.co_mutex.proofs.Codes.{M, IsKept, kept_moves, kept_makes, one_in_hand}

module _ {T : Type 0} where
  abbrev pub SubTold : Bool → T → ℕ → Known T → M T → Type 0
  SubTold b x found v after = MatchBool b (LeftAlone x found v after) (LeftOthers x found v after)

  pub sub_kept : (b : Bool) (x : T) (found : ℕ) (v : Known T) (after : M T) → SubTold b x found v after → IsKept v after.0
  sub_kept true x found v after told = kept_makes _ _ _ _ _ _ after told.makes
  sub_kept false x found v after told = kept_makes _ _ _ _ _ _ after told.makes

  pub sub_told : (before exchanged after : M T) (x : T) (slots found : ℕ) → exchanged ≡ (before.0, (0, Value x) ∷ []) → subbed (step slots locked_at 1 0 none) exchanged found after → SubTold (eqb found 1) x found before.0 after
  sub_told before exchanged after x slots found e told =
      subst (λ (z : Known T). SubTold (eqb found 1) x found z after) (ap (λ (z : M T). z.0) e) (told x (ap (λ (z : M T). z.1) e))

  pub swap_kept : (side : Side) (before after : M T) (found : ℕ) → Swaps side before found after → IsKept before.0 after.0
  swap_kept side before after found told = by (eqb found 0) told.is
    where
      by : (b : Bool) → MatchBool b ((side ≡ Rattle.co_mutex.specs.Places.Unlocking) × Is after (moves before.0 (OnDuty side Nobody) (done HeadSwap head_at found), before.1)) ((left : List ℕ) × Is after (moves before.0 (OnDuty side (Walking found left [])) (done HeadSwap head_at found), before.1)) → IsKept before.0 after.0
      by true is = kept_moves _ _ _ _ after is.1
      by false is = kept_moves _ _ _ _ after is.1

  pub next_told : (before after : M T) (side : Side) (word at found : ℕ) (left list : List ℕ) → before.0.place ≡ OnDuty side (Walking word left list) → loads_at before.0.place at before found after → Loads side word list at before found after
  next_told before after side word at found left list duty told =
      subst (λ z. loads_at z at before found after) duty told

  pub load_kept : (side : Side) (word at found : ℕ) (list : List ℕ) (before after : M T) → Loads side word list at before found after → IsKept before.0 after.0
  load_kept side word at found list before after told = by told.q (eqb found 0) told.is
    where
      by : (q : ℕ) (b : Bool) → MatchBool b (Is after (moves before.0 (OnDuty side (ToPop (q ∷ list))) (done NextLoad at found), before.1)) ((l : List ℕ) × Is after (moves before.0 (OnDuty side (Walking found l (q ∷ list))) (done NextLoad at found), before.1)) → IsKept before.0 after.0
      by q true is = kept_moves _ _ _ _ after is
      by q false is = kept_moves _ _ _ _ after is.1

  pub who_told : (before after : M T) (side : Side) (q at found : ℕ) (rest : List ℕ) → before.0.place ≡ OnDuty side (ToPop (q ∷ rest)) → names_at before.0.place at before found after → Is after (moves before.0 (OnDuty side (Granting q found rest)) (done WhoLoad at found), before.1)
  who_told before after side q at found rest duty told =
      subst (λ z. names_at z at before found after) duty told

  pub grant_told : (before after : M T) (side : Side) (q who at : ℕ) (rest : List ℕ) → before.0.place ≡ OnDuty side (Granting q who rest) → grants_at before.0.place at before.0 after → Grants side q who at before.0 after
  grant_told before after side q who at rest duty told =
      subst (λ z. grants_at z at before.0 after) duty told

  pub look_told : (before after : M T) (k found : ℕ) → before.0.place ≡ Published k → before.1 ≡ [] → looks_at before.0.place before found after → Is after (moves before.0 (cond (eqb found 0) AtRest (Found k)) (done SecondLook head_at found), [])
  look_told before after k found is none_there told =
      subst (λ z. looks_at z before found after) is told ∙ ap (λ (l : List (ℕ × Slot T)). (moves before.0 (cond (eqb found 0) AtRest (Found k)) (done SecondLook head_at found), l)) none_there

module _ {T N : Type 0} (note : T → ℕ → N) (n : ℕ) (built : T) (slots id : ℕ) where
  pub sub_ready : (before after : M T) (x : T) → before.0.live ≡ true → before.1 ≡ (0, Out) ∷ [] → before.0.place ≡ Holds → after ≡ (before.0, (0, Value x) ∷ rest before.1) → SameNotes note before.0.number (value_of built before.0.seen) x → Allows (Kept note n built) slots id after locked_at (λ k. (k + (2 ^ 64 - 1)) % 2 ^ 64) (subbed (step slots locked_at 1 0 none) after)
  sub_ready before after x live one holds e notes =
      let is = one_in_hand before after 0 Out (Value x) one e in
      subst (λ (z : M T). Allows (Kept note n built) slots id z locked_at (λ k. (k + (2 ^ 64 - 1)) % 2 ^ 64) (subbed (step slots locked_at 1 0 none) z)) (sym is) (sub_step note n built slots id (before.0, (0, Value x) ∷ []) x live refl holds notes)

  module _ (me : M T) (live : me.0.live ≡ true) (word q : ℕ) (side : Side) where
    pub next_ready : word ≡ next_at q → (left list : List ℕ) → me.0.place ≡ OnDuty side (Walking (q + 1) left list) → Allows (Kept note n built) slots id me word (λ k. k) (loaded_next (step slots word 0 0 none) me)
    next_ready e left list duty =
        subst (λ k. Allows (Kept note n built) slots id me k (λ z. z) (loaded_next (step slots k 0 0 none) me)) (sym e) (next_step note n built slots id me side (q + 1) left list q live refl duty)

    pub who_ready : word ≡ who_at q → (rest : List ℕ) → me.0.place ≡ OnDuty side (ToPop (q ∷ rest)) → Allows (Kept note n built) slots id me word (λ k. k) (loaded_who (step slots word 0 0 none) me)
    who_ready e rest duty =
        subst (λ k. Allows (Kept note n built) slots id me k (λ z. z) (loaded_who (step slots k 0 0 none) me)) (sym e) (who_step note n built slots id me side q rest live duty)

    pub grant_ready : word ≡ grant_at q → (who last : ℕ) (rest : List ℕ) → me.1 ≡ (1, Popped rest last) ∷ [] → me.0.place ≡ OnDuty side (Granting q who rest) → Allows (Kept note n built) slots id me word (λ k. 1) (λ k. stored_grant (step slots word 1 0 none) me 1)
    grant_ready e who last rest carried duty =
        subst (λ k. Allows (Kept note n built) slots id me k (λ z. 1) (λ z. stored_grant (step slots k 1 0 none) me 1)) (sym e) (grant_step note n built slots id me side q who last rest live carried duty)

module _ {T : Type 0} where
  -- the list as the slot has it
  pub roomy : (list : PoppedList) → list.room ≡ 64 → ◌≡◌ {A = List (ℕ × Slot T)} ((1, Waiters list) ∷ []) ((1, Popped list.waiting list.last) ∷ [])
  roomy list e =
      ap (λ r. (1, Waiters (record { waiting = list.waiting; last = list.last; room = r })) ∷ []) e

  pub granted_of : (v w : Known T) (side : Side) (q who : ℕ) (place : PassPlace) (after : M T) → w ≡ moves v place (done WhoLoad (who_at q) who) → Grants side q who (grant_at q) w after → Granted side q who v after
  granted_of v w side q who place after e told =
      let t = subst (λ z. Grants side q who (grant_at q) z after) e told in
      (t.older, record { is = t.makes.is; goes = t.makes.goes; legal = t.makes.legal }, t.named)
