-- The steps that pass the baton, but for the grant: the sub, the hand-off store, the hand-off compare that wins, and the grant swap.
use Rattle.std.proofs.Common.{◌≡◌, ◌≢◌, ℕ, ◌+◌, ◌<◌, inl, inr, ⊎_elim, false, Some, None, List, [], ◌∷◌, ◌++◌, reverse, slice_index, set, length, length-set, refl, sym, ap, ◌∙◌, subst, arith}
use Rattle.std.proofs.lemmas.Bool.{cases_eq}
use mathlib.Core.Option.{Option as Opt, some, none, some-injective}
use lib.ListN.{get_elem?}
use Rattle.atomic_table.proofs.Lists.{set_here, set_else}
use Rattle.aio_chain.specs.Chains.{IsChain}
use Rattle.aio_chain.proofs.Chains.{chain_kept}
use Rattle.aio_model.specs.Lock.History.{LockEntry, Release, IsWaitingIn, owner_of, waiters_of}
use Rattle.co_mutex.specs.Places.{Side, Locking, Unlocking, ToPop, Nobody, PassPlace, AtRest, Loaded, Holds, OnDuty, Published, Found, is_in_line, is_before_push, is_holding, IsNumbered}
use Rattle.co_mutex.specs.LockWords.{locked_at, handoff_at, head_at, grant_at, next_in}
use Rattle.co_mutex.specs.declared.slot.Slot.{Slot}
use Rattle.co_mutex.specs.declared.slot.Slot.TheVariants.{Value}
use Rattle.co_mutex.specs.Rule.{Popped, Baton, Free, Owned, Duty, Offered, owner_in, Fit, IsAt, one_if, CountsStand, grant_word, IsHome, IsWith, ListIs, LinkStands, NameStands, Stands}
use Rattle.co_mutex.proofs.Counting.{bit}
use Rattle.co_mutex.proofs.Frames.{read_here, read_else, each_set, linked_kept, counts_after, is_at_kept, owned_same, duty_same}
use Rattle.co_mutex.proofs.Quiet.{named_kept, not_holds}
use Rattle.co_mutex.proofs.QuietSteps.{at_low}
use Rattle.co_mutex.proofs.Laws.{legal_owner}
use Rattle.co_mutex.proofs.DutySteps.{with_me, waiters_now}
use Rattle.co_mutex.proofs.GotSteps.{low_fits}
use Rattle.co_mutex.proofs.Batons.{offered_at, grant_else, holding_zero, Low, low_set, every, named_grown, none_holds, home_kept}

module _ {T : Type 0} (n : ℕ) (built : T) (h : List (LockEntry T)) (words : List ℕ) (homes : List (Opt (Slot T))) (places : List PassPlace) (b : Baton) (stack : List ℕ) (s : Stands n built h words homes places b stack) (p : ℕ) where
  -- the lock is released; the value x was put back
  module _ (x : T) (at : get_elem? places p ≡ some Holds) where
    abbrev pub released : List (LockEntry T)
    released = Release p x ∷ h

    pub mine : b ≡ Owned p
    mine = s.baton_stands.each p Holds at

    owner : owner_of h ≡ Some p
    owner = s.baton_stands.owner ∙ ap owner_in mine

    apart : ¬ (IsWaitingIn p (waiters_of h))
    apart = legal_owner h p s.legal owner

    gone : get_elem? homes 0 ≡ some none
    gone =
        ⊎_elim (λ held. held.2) (λ home. absurd (home.0 p Holds at refl)) s.value

    pub home : IsHome h homes stack
    home = subst (λ k. ListIs k h words homes places stack) mine s.lists.list

    fit : Fit (Owned p) (slice_index words locked_at) (slice_index words handoff_at)
    fit = subst (λ k. Fit k (slice_index words locked_at) (slice_index words handoff_at)) mine s.baton_stands.fit

    others : (c : Baton) (q : ℕ) (place : PassPlace) → q ≢ p → (c ≢ Owned q) → IsAt h b q place → IsAt released c q place
    others c q place ne isnt k =
        is_at_kept h released b c q place (λ z. z) (λ z. z) (λ e. absurd (ne (sym (owned_same p q (sym mine ∙ e))))) (λ e. absurd (isnt e)) (λ e. absurd (let bad : Owned p ≡ Duty q = sym mine ∙ e in cc)) k

    module _ (l : ℕ) (found : slice_index words locked_at ≡ l + 1) where
      abbrev pub lowered : List ℕ
      lowered = set words locked_at l

      w : Low words lowered
      w = low_set words locked_at l (omega arith)

      one : slice_index lowered locked_at ≡ l
      one = read_here words locked_at l (low_fits n built h words homes places b stack s p locked_at (omega arith))

      same_handoff : slice_index lowered handoff_at ≡ slice_index words handoff_at
      same_handoff = read_else words locked_at handoff_at l (λ q. omega arith)

      same_head : slice_index lowered head_at ≡ slice_index words head_at
      same_head = read_else words locked_at head_at l (λ q. omega arith)

      -- the list and the baton are said by the caller
      after : (c : Baton) (new : PassPlace) (homes2 : List (Opt (Slot T))) → is_in_line new ≡ false → is_before_push new ≡ false → is_holding new ≡ false → owner_in c ≡ None → Fit c l (slice_index words handoff_at) → ((q : ℕ) → c ≢ Owned q) → IsAt released c p new → ((q : ℕ) (place : PassPlace) → grant_word c q place ≡ 0) → get_elem? homes2 0 ≡ some (some (Value x)) → ListIs c released lowered homes2 (set places p new) stack → LinkStands lowered p new → NameStands released lowered p new → IsNumbered new → c ≢ Offered → Stands n built released lowered homes2 (set places p new) c stack
      after c new homes2 line before holding unowned fits isnt is zero_all value list linked named numbered not_offered =
          let owned_one : one_if (owner_of h) ≡ 1 = ap one_if owner in
          let line_zero : bit (is_in_line new) ≡ 0 = ap bit line in
          let before_zero : bit (is_before_push new) ≡ 0 = ap bit before in
          let each_now = each_set (IsAt h b) (IsAt released c) places p new s.baton_stands.each is (λ q place ne atq k. others c q place ne (isnt q) k) in
          record {
            long = w.long ∙ s.long;
            each = length-set places p new ∙ s.each;
            legal = (owner, s.legal);
            below = s.below;
            counts = counts_after h released (slice_index words locked_at) (slice_index lowered locked_at) places p Holds new s.counts at (omega (arith, one, found, line_zero)) (omega (arith, one, found, owned_one, before_zero));
            baton_stands = record {
              owner = sym unowned;
              fit = subst (λ k. Fit c k (slice_index lowered handoff_at)) (sym one) (subst (λ k. Fit c l k) (sym same_handoff) fits);
              each = each_now;
            };
            grants = each_set (λ q place. slice_index words (grant_at q) ≡ grant_word b q place) (λ q place. slice_index lowered (grant_at q) ≡ grant_word c q place) places p new s.grants (w.grants p ∙ s.grants p Holds at ∙ holding_zero b p ∙ sym (zero_all p new)) (λ q place ne atq k. w.grants q ∙ k ∙ grant_else b q place (λ e. ne (sym (owned_same p q (sym mine ∙ e)))) ∙ sym (zero_all q place));
            value = inr (none_holds released c (set places p new) each_now isnt, value);
            lists = record {
              chain = subst (λ k. IsChain (next_in lowered) k stack) (sym same_head) (chain_kept (next_in words) (next_in lowered) _ stack s.lists.chain (every _ stack w.next));
              list = list;
              linked = each_set (LinkStands words) (LinkStands lowered) places p new s.lists.linked linked (λ q place ne atq k. linked_kept words lowered q place (w.next q) k);
            };
            names = record {
              waiting = λ q waits. w.who q ∙ s.names.waiting q waits;
              each = each_set (NameStands h words) (NameStands released lowered) places p new s.names.each named (λ q place ne atq k. named_grown h released words lowered q place (λ r. refl) (w.who q) k);
            };
            looks = record {
              numbered = each_set (λ q place. IsNumbered place) (λ q place. IsNumbered place) places p new s.looks.numbered numbered (λ q place ne atq k. k);
              looker = λ o. absurd (not_offered o);
            };
          }

      put_back : List (Opt (Slot T))
      put_back = set homes 0 (some (Value x))

      there : get_elem? (set homes 0 (some (Value x))) 0 ≡ some (some (Value x))
      there = set_here homes 0 (some (Value x)) (at_low homes 0 none gone)

      second : get_elem? (set homes 0 (some (Value x))) 1 ≡ get_elem? homes 1
      second = set_else homes 0 1 (some (Value x)) (λ e. omega arith)

      -- nobody else is in the line
      pub sub_last : l ≡ 0 → Stands n built released lowered (set homes 0 (some (Value x))) (set places p AtRest) Free stack
      sub_last last =
          after Free AtRest (set homes 0 (some (Value x))) refl refl refl refl (last, fit.1) (λ q e. (let bad : Free ≡ Owned q = e in cc)) (apart, λ e. (let bad : Free ≡ Owned p = e in cc)) (λ q place. refl) there (home_kept h released homes (set homes 0 (some (Value x))) stack second refl home) tt tt tt (λ e. (let bad : Free ≡ Offered = e in cc))

      -- somebody is, and the duty to wake begins
      pub sub_more : l ≢ 0 → Stands n built released lowered (set (set homes 0 (some (Value x))) 1 none) (set places p (OnDuty Unlocking (ToPop home.popped))) (Duty p) stack
      sub_more more =
          let homes2 = set (set homes 0 (some (Value x))) 1 none in
          let new = OnDuty Unlocking (ToPop home.popped) in
          let one_there = second ∙ home.there in
          let list : IsWith p released lowered homes2 (set places p new) stack = record { side = Unlocking; task = ToPop home.popped; place = set_here places p new (at_low places p Holds at); gone = set_here (set homes 0 (some (Value x))) 1 none (at_low (set homes 0 (some (Value x))) 1 _ one_there); tasked = tt; waiters = home.waiters } in
          after (Duty p) new homes2 refl refl refl refl (omega (arith, more), fit.1) (λ q e. (let bad : Duty p ≡ Owned q = e in cc)) (refl, apart) (λ q place. refl) (set_else (set homes 0 (some (Value x))) 1 0 none (λ e. omega arith) ∙ there) list tt tt tt (λ e. (let bad : Duty p ≡ Offered = e in cc))

  -- the hand-off is published
  pub published : (k last : ℕ) (at : get_elem? places p ≡ some (OnDuty Unlocking Nobody)) → k ≢ 0 → Stands n built h (set words handoff_at k) (set homes 1 (some (Popped [] last))) (set places p (Published k)) Offered stack
  published k last at some_number =
      let old = OnDuty Unlocking Nobody in
      let new = Published k in
      let other = set words handoff_at k in
      let homes2 = set homes 1 (some (Popped [] last)) in
      let is = s.baton_stands.each p old at in
      let me = with_me n built h words homes places b stack s p Unlocking Nobody at in
      let all = waiters_now n built h words homes places b stack s p Unlocking Nobody at in
      let fit = subst (λ z. Fit z (slice_index words locked_at) (slice_index words handoff_at)) is.0 s.baton_stands.fit in
      let w = low_set words handoff_at k (omega arith) in
      let one = read_here words handoff_at k (low_fits n built h words homes places b stack s p handoff_at (omega arith)) in
      let same_locked = read_else words handoff_at locked_at k (λ q. omega arith) in
      let same_head = read_else words handoff_at head_at k (λ q. omega arith) in
      let low = at_low places p old at in
      let not_owned : (q : ℕ) → b ≢ Owned q = λ q e. (let bad : Duty p ≡ Owned q = sym is.0 ∙ e in cc) in
      let home : IsHome h homes2 stack = record { popped = []; last = last; there = set_here homes 1 (some (Popped [] last)) (at_low homes 1 none me.gone); waiters = all } in
      record {
        long = w.long ∙ s.long;
        each = length-set places p new ∙ s.each;
        legal = s.legal;
        below = s.below;
        counts = subst (λ z. CountsStand h z (set places p new)) (sym same_locked) (counts_after h h (slice_index words locked_at) (slice_index words locked_at) places p old new s.counts at refl refl);
        baton_stands = record {
          owner = s.baton_stands.owner ∙ ap owner_in is.0;
          fit = (subst (λ z. 0 < z) (sym same_locked) fit.0, λ e. some_number (sym one ∙ e));
          each = each_set (IsAt h b) (IsAt h Offered) places p new s.baton_stands.each (is.1, λ e. (let bad : Offered ≡ Owned p = e in cc)) (λ q place ne atq z. is_at_kept h h b Offered q place (λ y. y) (λ y. y) (λ e. absurd (not_owned q e)) (λ e. absurd (let bad : Offered ≡ Owned q = e in cc)) (λ e. absurd (ne (sym (duty_same p q (sym is.0 ∙ e))))) z);
        };
        grants = each_set (λ q place. slice_index words (grant_at q) ≡ grant_word b q place) (λ q place. slice_index other (grant_at q) ≡ grant_word Offered q place) places p new s.grants (w.grants p ∙ s.grants p old at ∙ grant_else b p old (not_owned p)) (λ q place ne atq z. w.grants q ∙ z ∙ grant_else b q place (not_owned q));
        value = ⊎_elim (λ held. inl (held.0, ⊎_elim (λ e. absurd (let bad : old ≡ Holds = some-injective _ _ (sym at ∙ ap (get_elem? places) (sym e) ∙ held.1) in cc)) (λ ne. set_else places p held.0 new ne ∙ held.1) (cases_eq held.0 p), set_else homes 1 0 (some (Popped [] last)) (λ e. omega arith) ∙ held.2)) (λ hm. inr (each_set (λ q place. place ≢ Holds) (λ q place. place ≢ Holds) places p new hm.0 (λ e. (let bad : Published k ≡ Holds = e in cc)) (λ q place ne atq z. z), set_else homes 1 0 (some (Popped [] last)) (λ e. omega arith) ∙ hm.1)) s.value;
        lists = record {
          chain = subst (λ z. IsChain (next_in other) z stack) (sym same_head) (chain_kept (next_in words) (next_in other) _ stack s.lists.chain (every _ stack w.next));
          list = (home, refl);
          linked = each_set (LinkStands words) (LinkStands other) places p new s.lists.linked tt (λ q place ne atq z. linked_kept words other q place (w.next q) z);
        };
        names = record {
          waiting = λ q waits. w.who q ∙ s.names.waiting q waits;
          each = each_set (NameStands h words) (NameStands h other) places p new s.names.each tt (λ q place ne atq z. named_kept h words other q place (w.who q) z);
        };
        looks = record {
          numbered = each_set (λ q place. IsNumbered place) (λ q place. IsNumbered place) places p new s.looks.numbered some_number (λ q place ne atq z. z);
          looker = λ o. (p, new, set_here places p new low, sym one);
        };
      }

  -- the hand-off is taken: the number that was loaded, or stored, still stands there
  module _ (side : Side) (old : PassPlace) (k : ℕ) (at : get_elem? places p ≡ some old) (there : slice_index words handoff_at ≡ k) (some_number : k ≢ 0) where
    pub offered_now : b ≡ Offered
    offered_now = offered_at b _ _ s.baton_stands.fit (λ e. some_number (sym there ∙ e))

    pub offer : (home : IsHome h homes stack) × (home.popped ≡ [])
    offer = subst (λ z. ListIs z h words homes places stack) offered_now s.lists.list

    pub taken : is_in_line (OnDuty side (ToPop [])) ≡ is_in_line old → is_before_push old ≡ false → is_holding old ≡ false → IsAt h (Duty p) p (OnDuty side (ToPop [])) → Stands n built h (set words handoff_at 0) (set homes 1 none) (set places p (OnDuty side (ToPop []))) (Duty p) stack
    taken line before held is =
        let new = OnDuty side (ToPop []) in
        let other = set words handoff_at 0 in
        let homes2 = set homes 1 none in
        let fit = subst (λ z. Fit z (slice_index words locked_at) (slice_index words handoff_at)) offered_now s.baton_stands.fit in
        let w = low_set words handoff_at 0 (omega arith) in
        let one = read_here words handoff_at 0 (low_fits n built h words homes places b stack s p handoff_at (omega arith)) in
        let same_locked = read_else words handoff_at locked_at 0 (λ q. omega arith) in
        let same_head = read_else words handoff_at head_at 0 (λ q. omega arith) in
        let low = at_low places p old at in
        let not_owned : (q : ℕ) → b ≢ Owned q = λ q e. (let bad : Offered ≡ Owned q = sym offered_now ∙ e in cc) in
        let isnt_held : old ≢ Holds = not_holds old held in
        let list : IsWith p h other homes2 (set places p new) stack = record { side = side; task = ToPop []; place = set_here places p new low; gone = set_here homes 1 none (at_low homes 1 _ offer.0.there); tasked = tt; waiters = offer.0.waiters ∙ ap (λ (l : List ℕ). l ++ reverse stack) offer.1 } in
        record {
          long = w.long ∙ s.long;
          each = length-set places p new ∙ s.each;
          legal = s.legal;
          below = s.below;
          counts = subst (λ z. CountsStand h z (set places p new)) (sym same_locked) (counts_after h h (slice_index words locked_at) (slice_index words locked_at) places p old new s.counts at (ap (λ z. slice_index words locked_at + bit z) (sym line)) (ap (λ z. one_if (owner_of h) + length (waiters_of h) + bit z + slice_index words locked_at) (sym before)));
          baton_stands = record {
            owner = s.baton_stands.owner ∙ ap owner_in offered_now;
            fit = (subst (λ z. 0 < z) (sym same_locked) fit.0, one);
            each = each_set (IsAt h b) (IsAt h (Duty p)) places p new s.baton_stands.each is (λ q place ne atq z. is_at_kept h h b (Duty p) q place (λ y. y) (λ y. y) (λ e. absurd (not_owned q e)) (λ e. absurd (let bad : Duty p ≡ Owned q = e in cc)) (λ e. absurd (let bad : Offered ≡ Duty q = sym offered_now ∙ e in cc)) z);
          };
          grants = each_set (λ q place. slice_index words (grant_at q) ≡ grant_word b q place) (λ q place. slice_index other (grant_at q) ≡ grant_word (Duty p) q place) places p new s.grants (w.grants p ∙ s.grants p old at ∙ grant_else b p old (not_owned p)) (λ q place ne atq z. w.grants q ∙ z ∙ grant_else b q place (not_owned q));
          value = ⊎_elim (λ h2. inl (h2.0, ⊎_elim (λ e. absurd (isnt_held (some-injective _ _ (sym at ∙ ap (get_elem? places) (sym e) ∙ h2.1)))) (λ ne. set_else places p h2.0 new ne ∙ h2.1) (cases_eq h2.0 p), set_else homes 1 0 none (λ e. omega arith) ∙ h2.2)) (λ hm. inr (each_set (λ q place. place ≢ Holds) (λ q place. place ≢ Holds) places p new hm.0 (λ e. (let bad : OnDuty side (ToPop []) ≡ Holds = e in cc)) (λ q place ne atq z. z), set_else homes 1 0 none (λ e. omega arith) ∙ hm.1)) s.value;
          lists = record {
            chain = subst (λ z. IsChain (next_in other) z stack) (sym same_head) (chain_kept (next_in words) (next_in other) _ stack s.lists.chain (every _ stack w.next));
            list = list;
            linked = each_set (LinkStands words) (LinkStands other) places p new s.lists.linked tt (λ q place ne atq z. linked_kept words other q place (w.next q) z);
          };
          names = record {
            waiting = λ q waits. w.who q ∙ s.names.waiting q waits;
            each = each_set (NameStands h words) (NameStands h other) places p new s.names.each tt (λ q place ne atq z. named_kept h words other q place (w.who q) z);
          };
          looks = record {
            numbered = each_set (λ q place. IsNumbered place) (λ q place. IsNumbered place) places p new s.looks.numbered tt (λ q place ne atq z. z);
            looker = λ o. absurd (let bad : Duty p ≡ Offered = o in cc);
          };
        }

  pub lock_won : (k : ℕ) → get_elem? places p ≡ some (Loaded k) → slice_index words handoff_at ≡ k → Stands n built h (set words handoff_at 0) (set homes 1 none) (set places p (OnDuty Locking (ToPop []))) (Duty p) stack
  lock_won k at there =
      let number = s.looks.numbered p (Loaded k) at in
      let now = offered_now Locking (Loaded k) k at there number in
      let waits = ⊎_elim (λ x. x) (λ e. absurd (let bad : Offered ≡ Owned p = sym now ∙ e in cc)) (s.baton_stands.each p (Loaded k) at) in
      taken Locking (Loaded k) k at there number refl refl refl (refl, waits)

  pub unlock_won : (k : ℕ) → get_elem? places p ≡ some (Found k) → slice_index words handoff_at ≡ k → Stands n built h (set words handoff_at 0) (set homes 1 none) (set places p (OnDuty Unlocking (ToPop []))) (Duty p) stack
  unlock_won k at there =
      let number = s.looks.numbered p (Found k) at in
      taken Unlocking (Found k) k at there number refl refl refl (refl, (s.baton_stands.each p (Found k) at).0)
