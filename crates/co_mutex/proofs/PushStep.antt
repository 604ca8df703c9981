-- The head compare that wins: the pass waits.
use Rattle.std.proofs.Common.{◌≡◌, ◌≢◌, ℕ, ◌+◌, ◌<◌, inl, ⊎_elim, true, false, cond, eqb, List, [], ◌∷◌, ◌++◌, slice_index, set, length-set, refl, sym, ap, ◌∙◌, subst, arith}
use Rattle.std.proofs.lemmas.Bool.{cases_eq, ne_eqb, eq-eqb}
use mathlib.Core.Option.{Option as Opt, some}
use lib.ListN.{get_elem?}
use Rattle.atomic_table.proofs.Lists.{set_here}
use Rattle.aio_chain.specs.Chains.{IsChain}
use Rattle.aio_chain.proofs.Chains.{chain_kept, pushed}
use Rattle.aio_model.specs.Lock.History.{LockEntry, Wait, IsWaitingIn, waiters_of, coroutine_of}
use Rattle.co_mutex.specs.Places.{Side, Granting, PassPlace, Linked, Pushed, OnDuty, IsNumbered, pending}
use Rattle.co_mutex.specs.LockWords.{locked_at, handoff_at, head_at, grant_at, who_at, next_in}
use Rattle.co_mutex.specs.declared.slot.Slot.{Slot}
use Rattle.co_mutex.specs.Rule.{Baton, Free, Owned, Duty, Offered, Fit, IsAt, IsApart, grant_word, ListIs, LinkStands, NameStands, Stands}
use Rattle.co_mutex.proofs.Frames.{read_here, read_else, each_set, linked_kept, counts_after, is_at_kept}
use Rattle.co_mutex.proofs.WaitLists.{waits_front, waits_back, waits_either}
use Rattle.co_mutex.proofs.ListSteps.{pushed_last}
use Rattle.co_mutex.proofs.Quiet.{grant_same, value_kept, list_kept}
use Rattle.std.proofs.Common.{length-append}
use Rattle.co_mutex.proofs.QuietSteps.{at_low}
use Rattle.co_mutex.proofs.DutySteps.{waiters_now}
use Rattle.co_mutex.proofs.GotSteps.{low_fits}
use Rattle.co_mutex.proofs.Batons.{owner_apart, low_set, low_touches, every, named_else}

module _ {T : Type 0} where
  grown_list : (b : Baton) (h g : List (LockEntry T)) (words : List ℕ) (homes : List (Opt (Slot T))) (places : List PassPlace) (stack : List ℕ) (p : ℕ) → waiters_of g ≡ waiters_of h ++ p ∷ [] → ListIs b h words homes places stack → ListIs b g words homes places (p ∷ stack)
  grown_list Free h g words homes places stack p e is =
      record { popped = is.popped; last = is.last; there = is.there; waiters = e ∙ pushed_last (waiters_of h) is.popped stack p is.waiters }
  grown_list (Owned q) h g words homes places stack p e is =
      record { popped = is.popped; last = is.last; there = is.there; waiters = e ∙ pushed_last (waiters_of h) is.popped stack p is.waiters }
  grown_list (Duty q) h g words homes places stack p e is =
      record { side = is.side; task = is.task; place = is.place; gone = is.gone; tasked = is.tasked; waiters = e ∙ pushed_last (waiters_of h) (pending is.task) stack p is.waiters }
  grown_list Offered h g words homes places stack p e is =
      (record { popped = is.0.popped; last = is.0.last; there = is.0.there; waiters = e ∙ pushed_last (waiters_of h) is.0.popped stack p is.0.waiters }, is.1)

module _ {T : Type 0} (n : ℕ) (built : T) (h : List (LockEntry T)) (words : List ℕ) (homes : List (Opt (Slot T))) (places : List PassPlace) (b : Baton) (stack : List ℕ) (s : Stands n built h words homes places b stack) (p co found : ℕ) (at : get_elem? places p ≡ some (Linked co found)) where
  abbrev pub grown : List (LockEntry T)
  grown = Wait p co ∷ h

  apart : IsApart h b p
  apart = s.baton_stands.each p (Linked co found) at

  p_low : p < n
  p_low = let low = at_low places p (Linked co found) at in let each = s.each in omega (arith, low, each)

  granted_else : (q r other_co : ℕ) (side : Side) (rest : List ℕ) → get_elem? places q ≡ some (OnDuty side (Granting r other_co rest)) → coroutine_of r grown ≡ coroutine_of r h
  granted_else q r other_co side rest atq =
      let all = waiters_now n built h words homes places b stack s q side (Granting r other_co rest) atq in
      let waits : IsWaitingIn r (waiters_of h) = subst (IsWaitingIn r) (sym all) (inl refl) in
      let ne : r ≢ p = λ e. apart.0 (subst (λ k. IsWaitingIn k (waiters_of h)) e waits) in
      let other : eqb r p ≡ false = ne_eqb r p ne in
      ap (λ k. cond k co (coroutine_of r h)) other

  named_now : (r : ℕ) → IsWaitingIn r (waiters_of grown) → slice_index words (who_at r) ≡ coroutine_of r grown
  named_now r waits =
      ⊎_elim
      (λ e. (let same : eqb r p ≡ true = eq-eqb r p e in subst (λ k. slice_index words (who_at k) ≡ co) (sym e) (s.names.each p (Linked co found) at) ∙ sym (ap (λ k. cond k co (coroutine_of r h)) same)))
      (λ ne. (let other : eqb r p ≡ false = ne_eqb r p ne in s.names.waiting r (⊎_elim (λ k. k) (λ k. ⊎_elim (λ e. absurd (ne (sym e))) (λ z. absurd z) k) (waits_either r (waiters_of h) (p ∷ []) waits)) ∙ sym (ap (λ k. cond k co (coroutine_of r h)) other)))
      (cases_eq r p)

  pub push_won : slice_index words head_at ≡ found → Stands n built grown (set words head_at (p + 1)) homes (set places p Pushed) b (p ∷ stack)
  push_won here =
      let other = set words head_at (p + 1) in
      let w = low_set words head_at (p + 1) (omega arith) in
      let same_locked = read_else words head_at locked_at (p + 1) (λ q. omega arith) in
      let same_handoff = read_else words head_at handoff_at (p + 1) (λ q. omega arith) in
      let top = read_here words head_at (p + 1) (low_fits n built h words homes places b stack s p head_at (omega arith)) in
      let longer = length-append (waiters_of h) (p ∷ []) in
      let low = at_low places p (Linked co found) at in
      let below_it = chain_kept (next_in words) (next_in other) _ stack s.lists.chain (every _ stack w.next) in
      let linked : next_in other p ≡ slice_index words head_at = w.next p ∙ s.lists.linked p (Linked co found) at ∙ sym here in
      record {
        long = w.long ∙ s.long;
        each = length-set places p Pushed ∙ s.each;
        legal = (((λ e. owner_apart b p apart.1 (sym s.baton_stands.owner ∙ e)), apart.0), s.legal);
        below = λ q waits. ⊎_elim (λ k. s.below q k) (λ k. ⊎_elim (λ e. subst (λ z. z < n) e p_low) (λ z. absurd z) k) (waits_either q (waiters_of h) (p ∷ []) waits);
        counts = counts_after h grown (slice_index words locked_at) (slice_index other locked_at) places p (Linked co found) Pushed s.counts at (omega (arith, same_locked)) (omega (arith, same_locked, longer));
        baton_stands = record {
          owner = s.baton_stands.owner;
          fit = subst (λ k. Fit b k (slice_index other handoff_at)) (sym same_locked) (subst (λ k. Fit b (slice_index words locked_at) k) (sym same_handoff) s.baton_stands.fit);
          each = each_set (IsAt h b) (IsAt grown b) places p Pushed s.baton_stands.each (inl (waits_back p (waiters_of h) (p ∷ []) (inl refl))) (λ q place ne atq k. is_at_kept h grown b b q place (λ x. waits_front q (waiters_of h) (p ∷ []) x) (λ x. ⊎_elim (λ z. z) (λ z. ⊎_elim (λ e. absurd (ne (sym e))) (λ y. absurd y) z) (waits_either q (waiters_of h) (p ∷ []) x)) (λ e. e) (λ e. e) (λ e. e) k);
        };
        grants = each_set (λ q place. slice_index words (grant_at q) ≡ grant_word b q place) (λ q place. slice_index other (grant_at q) ≡ grant_word b q place) places p Pushed s.grants (w.grants p ∙ s.grants p (Linked co found) at ∙ sym (grant_same b p (Linked co found) Pushed refl)) (λ q place ne atq k. w.grants q ∙ k);
        value = value_kept built h homes places p (Linked co found) Pushed at refl refl s.value;
        lists = record {
          chain = subst (λ k. IsChain (next_in other) k (p ∷ stack)) (sym top) (pushed (next_in other) (slice_index words head_at) p stack below_it linked);
          list = grown_list b h grown other homes (set places p Pushed) stack p refl (list_kept b h words other homes places p (Linked co found) Pushed stack (low_touches h words other p w) at refl s.lists.list);
          linked = each_set (LinkStands words) (LinkStands other) places p Pushed s.lists.linked tt (λ q place ne atq k. linked_kept words other q place (w.next q) k);
        };
        names = record {
          waiting = λ q waits. w.who q ∙ named_now q waits;
          each = each_set (NameStands h words) (NameStands grown other) places p Pushed s.names.each tt (λ q place ne atq k. named_else h grown words other q place (λ side r oco rest e. granted_else q r oco side rest (atq ∙ ap some e)) (w.who q) k);
        };
        looks = record {
          numbered = each_set (λ q place. IsNumbered place) (λ q place. IsNumbered place) places p Pushed s.looks.numbered tt (λ q place ne atq k. k);
          looker = λ o. (p, Pushed, set_here places p Pushed low, tt);
        };
      }
