-- The grant store, and the grant swap that finds 1.
use Rattle.std.proofs.Common.{◌≡◌, ◌≢◌, ℕ, ◌+◌, ◌<◌, ◌⊎◌, inl, inr, ⊎_elim, true, false, None, List, ◌∷◌, ◌++◌, reverse, slice_index, set, length, length-set, refl, sym, ap, ◌∙◌, subst, arith}
use Rattle.std.proofs.lemmas.Bool.{cases_eq}
use mathlib.Core.Option.{Option as Opt, some, none, some-injective}
use lib.ListN.{get_elem?}
use Rattle.atomic_table.proofs.Lists.{at_set, set_here, set_else}
use Rattle.aio_chain.specs.Chains.{IsChain}
use Rattle.aio_chain.proofs.Chains.{chain_kept}
use Rattle.aio_model.specs.Lock.History.{LockEntry, Grant, IsWaitingIn, IsFirst, without_first, owner_of, waiters_of, value_of}
use Rattle.co_mutex.specs.Places.{Side, Locking, Unlocking, Task, PassPlace, AtRest, Counted, Named, HeadLoaded, Linked, Pushed, Loaded, Queued, SelfGranted, Holds, OnDuty, Published, Found, is_in_line, is_before_push, is_holding, IsNumbered, pending}
use Rattle.co_mutex.specs.LockWords.{locked_at, handoff_at, head_at, next_at, grant_at, who_at, next_in}
use Rattle.co_mutex.specs.declared.slot.Slot.{Slot}
use Rattle.co_mutex.specs.declared.slot.Slot.TheVariants.{Value}
use Rattle.co_mutex.specs.Rule.{Popped, Baton, Owned, Duty, Offered, EachPlace, owner_in, Fit, IsAt, IsApart, one_if, CountsStand, grant_word, IsHome, IsWith, ListIs, LinkStands, NameStands, Stands}
use Rattle.co_mutex.proofs.Counting.{bit}
use Rattle.co_mutex.proofs.Frames.{read_here, read_else, each_set, linked_kept, counts_after, owned_same, duty_same}
use Rattle.co_mutex.proofs.Quiet.{is_duty, named_kept, not_holds}
use Rattle.co_mutex.proofs.QuietSteps.{at_low}
use Rattle.co_mutex.proofs.Laws.{tail_waits}
use Rattle.co_mutex.proofs.DutySteps.{with_me, waiters_now, mine}
use Rattle.co_mutex.proofs.Batons.{owned_at_one, owned_else, grant_else, owned_here, holding_zero, every, named_grown, none_holds, value_home, home_kept}

-- of the words only the grant word of this pass changes
pub record GrantOnly (words other : List ℕ) (q x : ℕ) : Type 0 where
  pub long : length other ≡ length words
  pub locked : slice_index other locked_at ≡ slice_index words locked_at
  pub handoff : slice_index other handoff_at ≡ slice_index words handoff_at
  pub head : slice_index other head_at ≡ slice_index words head_at
  pub here : slice_index other (grant_at q) ≡ x
  pub else : (r : ℕ) → r ≢ q → slice_index other (grant_at r) ≡ slice_index words (grant_at r)
  pub next : (r : ℕ) → next_in other r ≡ next_in words r
  pub who : (r : ℕ) → slice_index other (who_at r) ≡ slice_index words (who_at r)

pub grant_set : (words : List ℕ) (q x : ℕ) → grant_at q < length words → GrantOnly words (set words (grant_at q) x) q x
grant_set words q x low =
    record {
      long = length-set words (grant_at q) x;
      locked = read_else words (grant_at q) locked_at x (λ e. omega arith);
      handoff = read_else words (grant_at q) handoff_at x (λ e. omega arith);
      head = read_else words (grant_at q) head_at x (λ e. omega arith);
      here = read_here words (grant_at q) x low;
      else = λ r ne. read_else words (grant_at q) (grant_at r) x (λ e. ne (omega arith));
      next = λ r. read_else words (grant_at q) (next_at r) x (λ e. omega arith);
      who = λ r. read_else words (grant_at q) (who_at r) x (λ e. omega arith);
    }

module _ {T : Type 0} where
  -- a pass other than the one that grants: the granted one no longer waits and owns, all others stand as before
  granted_at : (h g : List (LockEntry T)) (p q r : ℕ) (rest : List ℕ) (place : PassPlace) → waiters_of h ≡ q ∷ rest → waiters_of g ≡ rest → r ≢ p → IsAt h (Duty p) r place → IsAt g (Owned q) r place
  granted_at h g p q r rest place was now ne = by place
    where
      -- waits before: it is the first, or in the rest
      parted : IsWaitingIn r (waiters_of h) → (q ≡ r) ⊎ IsWaitingIn r (waiters_of g)
      parted w = ⊎_elim (λ e. inl e) (λ k. inr (subst (IsWaitingIn r) (sym now) k)) (subst (IsWaitingIn r) was w)

      back : IsWaitingIn r (waiters_of g) → IsWaitingIn r (waiters_of h)
      back w = subst (IsWaitingIn r) (sym was) (inr (subst (IsWaitingIn r) now w))

      out : IsApart h (Duty p) r → IsApart g (Owned q) r
      out is =
          ((λ w. is.0 (back w)), (λ e. is.0 (subst (IsWaitingIn r) (sym was) (inl (owned_same q r e)))))

      in_line : IsWaitingIn r (waiters_of h) ⊎ (Duty p ≡ Owned r) → IsWaitingIn r (waiters_of g) ⊎ (Owned q ≡ Owned r)
      in_line is =
          ⊎_elim (λ w. ⊎_elim (λ e. inr (ap Owned e)) (λ k. inl k) (parted w)) (λ e. absurd cc) is

      by : (place : PassPlace) → IsAt h (Duty p) r place → IsAt g (Owned q) r place
      by AtRest is = out is
      by Counted is = out is
      by (Named co) is = out is
      by (HeadLoaded co found) is = out is
      by (Linked co found) is = out is
      by Pushed is = in_line is
      by (Loaded n) is = in_line is
      by Queued is = in_line is
      by SelfGranted is = absurd cc
      by Holds is = absurd cc
      by (OnDuty Locking task) is = absurd (ne (sym (duty_same p r is.0)))
      by (OnDuty Unlocking task) is = absurd (ne (sym (duty_same p r is.0)))
      by (Published n) is = out is
      by (Found n) is = out is

module _ {T : Type 0} (n : ℕ) (built : T) (h : List (LockEntry T)) (words : List ℕ) (homes : List (Opt (Slot T))) (places : List PassPlace) (b : Baton) (stack : List ℕ) (s : Stands n built h words homes places b stack) (p : ℕ) where
  -- the grant store, by who has the duty; the first waiter and the rest that is put back are those of its task
  module _ (side : Side) (t : Task) (at : get_elem? places p ≡ some (OnDuty side t)) (q last : ℕ) (rest : List ℕ) (first : pending t ≡ q ∷ rest) where
    duty : b ≡ Duty p
    duty = mine n built h words homes places b stack s p side t at

    me : IsWith p h words homes places stack
    me = with_me n built h words homes places b stack s p side t at

    all : waiters_of h ≡ q ∷ (rest ++ reverse stack)
    all =
        waiters_now n built h words homes places b stack s p side t at ∙ ap (λ (l : List ℕ). l ++ reverse stack) first

    pub first_waits : IsWaitingIn q (waiters_of h)
    first_waits = subst (IsWaitingIn q) (sym all) (inl refl)

    abbrev pub granted : List (LockEntry T)
    granted = Grant p q ∷ h

    now : waiters_of granted ≡ rest ++ reverse stack
    now = ap without_first all

    unowned : owner_of h ≡ None
    unowned = s.baton_stands.owner ∙ ap owner_in duty

    not_owned : (r : ℕ) → b ≢ Owned r
    not_owned r e = let bad : Duty p ≡ Owned r = sym duty ∙ e in cc

    pub given : (new : PassPlace) → is_in_line new ≡ is_in_line (OnDuty side t) → is_before_push new ≡ false → is_holding new ≡ false → IsAt granted (Owned q) p new → ((words2 : List ℕ) → LinkStands words2 p new) → ((words2 : List ℕ) → NameStands granted words2 p new) → IsNumbered new → Stands n built granted (set words (grant_at q) 1) (set homes 1 (some (Popped rest last))) (set places p new) (Owned q) stack
    given new line before holding is linked named numbered =
        let old = OnDuty side t in
        let other = set words (grant_at q) 1 in
        let homes2 = set homes 1 (some (Popped rest last)) in
        let q_low = s.below q first_waits in
        let long = s.long in
        let w = grant_set words q 1 (omega (arith, long, q_low)) in
        let fit = subst (λ z. Fit z (slice_index words locked_at) (slice_index words handoff_at)) duty s.baton_stands.fit in
        let same_locked = w.locked in
        let was_none : one_if (owner_of h) ≡ 0 = ap one_if unowned in
        let was_long : length (waiters_of h) ≡ length (q ∷ (rest ++ reverse stack)) = ap length all in
        let is_long : length (waiters_of granted) ≡ length (rest ++ reverse stack) = ap length now in
        let before_zero : bit (is_before_push new) ≡ 0 = ap bit before in
        let line_bits : bit (is_in_line old) ≡ bit (is_in_line new) = ap bit (sym line) in
        let each_now = each_set (IsAt h b) (IsAt granted (Owned q)) places p new s.baton_stands.each is (λ r place ne atr k. granted_at h granted p q r (rest ++ reverse stack) place all now ne (subst (λ z. IsAt h z r place) duty k)) in
        let home : IsHome granted homes2 stack = record { popped = rest; last = last; there = set_here homes 1 (some (Popped rest last)) (at_low homes 1 none me.gone); waiters = now } in
        let places2 = set places p new in
        let none_now : EachPlace (λ r place. place ≢ Holds) places2 = each_set (λ r place. place ≢ Holds) (λ r place. place ≢ Holds) places p new (none_holds h b places s.baton_stands.each not_owned) (not_holds new holding) (λ r place ne atr k. k) in
        record {
          long = w.long ∙ s.long;
          each = length-set places p new ∙ s.each;
          legal = ((unowned, subst (IsFirst q) (sym all) refl), s.legal);
          below = λ r waits. s.below r (tail_waits r (waiters_of h) waits);
          counts = counts_after h granted (slice_index words locked_at) (slice_index other locked_at) places p old new s.counts at (omega (arith, same_locked, line_bits)) (omega (arith, same_locked, was_none, was_long, is_long, before_zero));
          baton_stands = record {
            owner = refl;
            fit = (subst (λ z. 0 < z) (sym w.locked) fit.0, w.handoff ∙ fit.1);
            each = each_now;
          };
          grants = λ r place atr. ⊎_elim (λ e. subst (λ z. slice_index other (grant_at z) ≡ grant_word (Owned q) z place) (sym e) (w.here ∙ sym (owned_here q place (unheld place (none_now r place atr))))) (λ ne. w.else r ne ∙ old_zero r place new ne atr ∙ sym (owned_else q r place (λ e. ne (sym e)))) (cases_eq r q);
          value = inr (none_now, set_else homes 1 0 (some (Popped rest last)) (λ e. omega arith) ∙ value_home built h homes places s.value (none_holds h b places s.baton_stands.each not_owned));
          lists = record {
            chain = subst (λ z. IsChain (next_in other) z stack) (sym w.head) (chain_kept (next_in words) (next_in other) _ stack s.lists.chain (every _ stack w.next));
            list = home;
            linked = each_set (LinkStands words) (LinkStands other) places p new s.lists.linked (linked other) (λ r place ne atr k. linked_kept words other r place (w.next r) k);
          };
          names = record {
            waiting = λ r waits. w.who r ∙ s.names.waiting r (tail_waits r (waiters_of h) waits);
            each = each_set (NameStands h words) (NameStands granted other) places p new s.names.each (named other) (λ r place ne atr k. named_grown h granted words other r place (λ z. refl) (w.who r) k);
          };
          looks = record {
            numbered = each_set (λ r place. IsNumbered place) (λ r place. IsNumbered place) places p new s.looks.numbered numbered (λ r place ne atr k. k);
            looker = λ o. absurd (let bad : Owned q ≡ Offered = o in cc);
          };
        }
      where
        unheld : (place : PassPlace) → place ≢ Holds → is_holding place ≡ false
        unheld AtRest ne = refl
        unheld Counted ne = refl
        unheld (Named co) ne = refl
        unheld (HeadLoaded co found) ne = refl
        unheld (Linked co found) ne = refl
        unheld Pushed ne = refl
        unheld (Loaded k) ne = refl
        unheld Queued ne = refl
        unheld SelfGranted ne = refl
        unheld Holds ne = absurd (ne refl)
        unheld (OnDuty sd task) ne = refl
        unheld (Published k) ne = refl
        unheld (Found k) ne = refl

        old_zero : (r : ℕ) (place made : PassPlace) → r ≢ q → get_elem? (set places p made) r ≡ some place → slice_index words (grant_at r) ≡ 0
        old_zero r place made ne atr =
            ⊎_elim (λ z. subst (λ y. slice_index words (grant_at y) ≡ 0) (sym z.0) (s.grants p (OnDuty side t) at ∙ grant_else b p (OnDuty side t) (not_owned p))) (λ z. s.grants r place z.1 ∙ grant_else b r place (not_owned r)) (at_set places p r made place atr)

    -- an unlocker's: it is at rest
    pub unlock_grants : side ≡ Unlocking → Stands n built granted (set words (grant_at q) 1) (set homes 1 (some (Popped rest last))) (set places p AtRest) (Owned q) stack
    unlock_grants is =
        let waits_not = (subst (λ k. IsAt h b p (OnDuty k t)) is (s.baton_stands.each p (OnDuty side t) at)).1 in
        given AtRest (sym (ap (λ k. is_in_line (OnDuty k t)) is)) refl refl ((λ w. waits_not (tail_waits p (waiters_of h) w)), (λ e. waits_not (subst (λ k. IsWaitingIn k (waiters_of h)) (owned_same q p e) first_waits))) (λ o. tt) (λ o. tt) tt

    -- a locker's, for another: it stays queued
    pub lock_grants : side ≡ Locking → q ≢ p → Stands n built granted (set words (grant_at q) 1) (set homes 1 (some (Popped rest last))) (set places p Queued) (Owned q) stack
    lock_grants is ne =
        let waits = (subst (λ k. IsAt h b p (OnDuty k t)) is (s.baton_stands.each p (OnDuty side t) at)).1 in
        given Queued (sym (ap (λ k. is_in_line (OnDuty k t)) is)) refl refl (⊎_elim (λ e. inr (ap Owned e)) (λ k. inl (subst (IsWaitingIn p) (sym now) k)) (subst (IsWaitingIn p) all waits)) (λ o. tt) (λ o. tt) tt

    -- a locker's, for itself
    pub lock_grants_itself : side ≡ Locking → q ≡ p → Stands n built granted (set words (grant_at q) 1) (set homes 1 (some (Popped rest last))) (set places p SelfGranted) (Owned q) stack
    lock_grants_itself is same =
        given SelfGranted (sym (ap (λ k. is_in_line (OnDuty k t)) is)) refl refl (ap Owned same) (λ o. tt) (λ o. tt) tt

  -- the grant swap that found 1, from the queue or after an own grant: the value is at home
  pub swapped : (old : PassPlace) → get_elem? places p ≡ some old → (old ≡ Queued) ⊎ (old ≡ SelfGranted) → slice_index words (grant_at p) ≡ 1 → (b ≡ Owned p) × (get_elem? homes 0 ≡ some (some (Value (value_of built h)))) × Stands n built h (set words (grant_at p) 0) (set homes 0 none) (set places p Holds) b stack
  swapped old at kind found =
      let own : b ≡ Owned p = owned_at_one b p old (sym (s.grants p old at) ∙ found) in
      let other = set words (grant_at p) 0 in
      let homes2 = set homes 0 none in
      let low = at_low places p old at in
      let long = s.long in
      let each = s.each in
      let w = grant_set words p 0 (omega (arith, long, low, each)) in
      let not_held : is_holding old ≡ false = ⊎_elim (λ e. ap is_holding e) (λ e. ap is_holding e) kind in
      let in_it : is_in_line old ≡ true = ⊎_elim (λ e. ap is_in_line e) (λ e. ap is_in_line e) kind in
      let pushed_it : is_before_push old ≡ false = ⊎_elim (λ e. ap is_before_push e) (λ e. ap is_before_push e) kind in
      let not_duty : is_duty old ≡ false = ⊎_elim (λ e. ap is_duty e) (λ e. ap is_duty e) kind in
      let none_there : EachPlace (λ r place. place ≢ Holds) places = λ r place atr e. (let same : p ≡ r = owned_same p r (sym own ∙ subst (IsAt h b r) e (s.baton_stands.each r place atr)) in let here : old ≡ Holds = some-injective _ _ (sym at ∙ ap (get_elem? places) same ∙ atr) ∙ e in not_holds old not_held here) in
      let home = value_home built h homes places s.value none_there in
      let list = subst (λ z. ListIs z h words homes places stack) own s.lists.list in (
        own,
        home,
        record {
          long = w.long ∙ s.long;
          each = length-set places p Holds ∙ s.each;
          legal = s.legal;
          below = s.below;
          counts = subst (λ z. CountsStand h z (set places p Holds)) (sym w.locked) (counts_after h h (slice_index words locked_at) (slice_index words locked_at) places p old Holds s.counts at (ap (λ z. slice_index words locked_at + bit z) in_it) (ap (λ z. one_if (owner_of h) + length (waiters_of h) + bit z + slice_index words locked_at) (sym pushed_it)));
          baton_stands = record {
            owner = s.baton_stands.owner;
            fit = subst (λ z. Fit b z (slice_index other handoff_at)) (sym w.locked) (subst (λ z. Fit b (slice_index words locked_at) z) (sym w.handoff) s.baton_stands.fit);
            each = each_set (IsAt h b) (IsAt h b) places p Holds s.baton_stands.each own (λ r place ne atr k. k);
          };
          grants = each_set (λ r place. slice_index words (grant_at r) ≡ grant_word b r place) (λ r place. slice_index other (grant_at r) ≡ grant_word b r place) places p Holds s.grants (w.here ∙ sym (holding_zero b p)) (λ r place ne atr k. w.else r ne ∙ k);
          value = inl (p, set_here places p Holds low, set_here homes 0 none (at_low homes 0 _ home));
          lists = record {
            chain = subst (λ z. IsChain (next_in other) z stack) (sym w.head) (chain_kept (next_in words) (next_in other) _ stack s.lists.chain (every _ stack w.next));
            list = subst (λ z. ListIs z h other homes2 (set places p Holds) stack) (sym own) (home_kept h h homes homes2 stack (set_else homes 0 1 none (λ e. omega arith)) refl list);
            linked = each_set (LinkStands words) (LinkStands other) places p Holds s.lists.linked tt (λ r place ne atr k. linked_kept words other r place (w.next r) k);
          };
          names = record {
            waiting = λ r waits. w.who r ∙ s.names.waiting r waits;
            each = each_set (NameStands h words) (NameStands h other) places p Holds s.names.each tt (λ r place ne atr k. named_kept h words other r place (w.who r) k);
          };
          looks = record {
            numbered = each_set (λ r place. IsNumbered place) (λ r place. IsNumbered place) places p Holds s.looks.numbered tt (λ r place ne atr k. k);
            looker = λ o. absurd (let bad : Owned p ≡ Offered = sym own ∙ o in cc);
          };
        },
      )
