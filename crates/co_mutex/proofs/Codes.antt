-- From what a function knows to what its step asks, and back.
use Rattle.std.proofs.Common.{◌≡◌, ℕ, ◌+◌, ◌<◌, Bool, true, false, eqb, MatchBool, List, [], ◌∷◌, refl, sym, ap, ◌∙◌, subst}
use mathlib.Core.Option.{none}
use prog.Atomic.{either}
use Rattle.atomic_table.specs.Table.{Me, step, Allows, rest}
use Rattle.co_mutex.specs.declared.slot.Slot.{Slot}
use Rattle.co_mutex.specs.declared.lock.CoMutex.{CoMutex}
use Rattle.co_mutex.specs.declared.lock.Pass.{Pass}
use Rattle.aio_model.specs.Lock.History.{LockEntry}
use Rattle.co_mutex.specs.LockWords.{head_at, next_at, grant_at, who_at}
use Rattle.co_mutex.specs.Places.{PassPlace, Counted, HeadLoaded, Linked, Queued, SelfGranted}
use Rattle.co_mutex.specs.Known.{GrantSwap, Done, Known, moves, learns, makes}
use Rattle.co_mutex.specs.Seats.{Kept}
use Rattle.co_mutex.specs.Plays.{done, Is, Makes, stored_who, stored_next, compared_head, FindsGrant, TakesOwn, finds_at, swapped_grant}
use Rattle.co_mutex.specs.Passes.{IsOf}
use Rattle.co_mutex.proofs.LockSteps.{who_store_step, next_store_step, head_compare_step}
use Rattle.co_mutex.proofs.OwnerSteps.{find_step, own_step}

pub either_way : {A B X : Type 0} (b : Bool) → MatchBool b A B → (A → X) → (B → X) → X
either_way true m f g = f m
either_way false m f g = g m

abbrev pub M : Type 0 → Type 0
M T = Me (Slot T) (Known T)

-- a pass stays what it is
pub record IsKept {T : Type 0} (v w : Known T) : Type 0 where
  pub opened : w.opened ≡ v.opened
  pub passes : w.passes ≡ v.passes
  pub live : w.live ≡ v.live
  pub number : w.number ≡ v.number

module _ {T : Type 0} where
  pub kept_as : (v w : Known T) (c : List (ℕ × Slot T)) (after : M T) → after ≡ (w, c) → IsKept v w → IsKept v after.0
  kept_as v w c after e k =
      subst (λ (z : Known T). IsKept v z) (sym (ap (λ (z : M T). z.0) e)) k

  pub kept_moves : (v : Known T) (place : PassPlace) (d : Done) (c : List (ℕ × Slot T)) (after : M T) → after ≡ (moves v place d, c) → IsKept v after.0
  kept_moves v place d c after e =
      kept_as v (moves v place d) c after e (record { opened = refl; passes = refl; live = refl; number = refl })

  pub kept_learns : (v : Known T) (place : PassPlace) (d : Done) (h : List (LockEntry T)) (c : List (ℕ × Slot T)) (after : M T) → after ≡ (learns v place d h, c) → IsKept v after.0
  kept_learns v place d h c after e =
      kept_as v (learns v place d h) c after e (record { opened = refl; passes = refl; live = refl; number = refl })

  pub kept_makes : (v : Known T) (place : PassPlace) (d : Done) (h : List (LockEntry T)) (entry : LockEntry T) (c : List (ℕ × Slot T)) (after : M T) → Makes entry place d h c v after → IsKept v after.0
  kept_makes v place d h entry c after m =
      kept_as v (makes v place d h entry) c after m.is (record { opened = refl; passes = refl; live = refl; number = refl })

  pub kept_then : (u v w : Known T) → IsKept u v → IsKept v w → IsKept u w
  kept_then u v w a b =
      record { opened = b.opened ∙ a.opened; passes = b.passes ∙ a.passes; live = b.live ∙ a.live; number = b.number ∙ a.number }

  -- what an exchange leaves in hand, where one slot was
  pub one_in_hand : (before after : M T) (slot : ℕ) (old new : Slot T) → before.1 ≡ (slot, old) ∷ [] → after ≡ (before.0, (slot, new) ∷ rest before.1) → after ≡ (before.0, (slot, new) ∷ [])
  one_in_hand before after slot old new one e =
      e ∙ ap (λ (l : List (ℕ × Slot T)). (before.0, (slot, new) ∷ rest l)) one

  -- the slot that is asked for
  pub in_hand : (before : M T) (slot : ℕ) (old : Slot T) → before.1 ≡ (slot, old) ∷ [] → (found : Slot T) × (before.1 ≡ (slot, found) ∷ rest before.1)
  in_hand before slot old one =
      (old, one ∙ ap (λ (l : List (ℕ × Slot T)). (slot, old) ∷ rest l) (sym one))

module _ {P T N : Type 0} where
  pub pass_of : (m : CoMutex P T N) (p q : Pass P T N) → q.seat.table_id ≡ p.seat.table_id → q.number ≡ p.number → IsKept p.seat.me.0 q.seat.me.0 → IsOf m p → IsOf m q
  pass_of m p q table number kept is =
      record { table = table ∙ is.table; opens = kept.opened ∙ is.opens; passes = kept.passes ∙ is.passes; live = kept.live ∙ is.live; number = number ∙ is.number ∙ sym kept.number; below = subst (λ z. z < m.table.shared.key.passes) (sym number) is.below }

-- steps on words of the own pass, wherever the code found them
module _ {T N : Type 0} (note : T → ℕ → N) (n : ℕ) (built : T) (slots id : ℕ) (me : M T) (live : me.0.live ≡ true) (word : ℕ) where
  pub who_ready : (who : ℕ) → word ≡ who_at me.0.number → me.0.place ≡ Counted → Allows (Kept note n built) slots id me word (λ z. who) (λ z. stored_who (step slots word who 0 none) me who)
  who_ready who e is =
      subst (λ k. Allows (Kept note n built) slots id me k (λ z. who) (λ z. stored_who (step slots k who 0 none) me who)) (sym e) (who_store_step note n built slots id me who live is)

  pub next_ready : (co head : ℕ) → word ≡ next_at me.0.number → me.0.place ≡ HeadLoaded co head → Allows (Kept note n built) slots id me word (λ z. head) (λ z. stored_next (step slots word head 0 none) me head)
  next_ready co head e is =
      subst (λ k. Allows (Kept note n built) slots id me k (λ z. head) (λ z. stored_next (step slots k head 0 none) me head)) (sym e) (next_store_step note n built slots id me co head live is)

  pub find_ready : word ≡ grant_at me.0.number → me.1 ≡ [] → me.0.place ≡ Queued → Allows (Kept note n built) slots id me word (λ z. 0) (swapped_grant note (step slots word 0 0 none) me)
  find_ready e none_there is =
      subst (λ k. Allows (Kept note n built) slots id me k (λ z. 0) (swapped_grant note (step slots k 0 0 none) me)) (sym e) (find_step note n built slots id me live none_there is)

  pub own_ready : word ≡ grant_at me.0.number → me.1 ≡ [] → me.0.place ≡ SelfGranted → Allows (Kept note n built) slots id me word (λ z. 0) (swapped_grant note (step slots word 0 0 none) me)
  own_ready e none_there is =
      subst (λ k. Allows (Kept note n built) slots id me k (λ z. 0) (swapped_grant note (step slots k 0 0 none) me)) (sym e) (own_step note n built slots id me live none_there is)

module _ {T N : Type 0} (note : T → ℕ → N) (built : T) (before after : M T) (word found : ℕ) (here : word ≡ grant_at before.0.number) where
  abbrev pub FindTold : ℕ → Bool → Type 0
  FindTold at b = MatchBool b (FindsGrant note at built before after) ((found ≡ 0) × Is after (moves before.0 Queued (done GrantSwap at 0), []))

  pub find_told : before.0.place ≡ Queued → finds_at note before.0.place word built before found after → FindTold (grant_at before.0.number) (eqb found 1)
  find_told is told =
      subst (λ k. FindTold k (eqb found 1)) here (subst (λ z. finds_at note z word built before found after) is told)

  pub find_kept : (b : Bool) (at : ℕ) → FindTold at b → IsKept before.0 after.0
  find_kept true at h = kept_learns _ _ _ _ _ after h.is
  find_kept false at h = kept_moves _ _ _ _ after h.1

  pub own_told : before.0.place ≡ SelfGranted → finds_at note before.0.place word built before found after → TakesOwn note (grant_at before.0.number) built before after
  own_told is told =
      subst (λ k. TakesOwn note k built before after) here (subst (λ z. finds_at note z word built before found after) is told).1

module _ {T N : Type 0} (note : T → ℕ → N) (n : ℕ) (built : T) (slots id : ℕ) (me : M T) (live : me.0.live ≡ true) where
  pub push_ready : (first co head : ℕ) → first ≡ me.0.number → me.0.place ≡ Linked co head → Allows (Kept note n built) slots id me head_at (λ z. either (eqb z head) (first + 1) z) (compared_head (step slots head_at head (first + 1) none) me)
  push_ready first co head e is =
      subst (λ k. Allows (Kept note n built) slots id me head_at (λ z. either (eqb z head) (k + 1) z) (compared_head (step slots head_at head (k + 1) none) me)) (sym e) (head_compare_step note n built slots id me co head live is)
