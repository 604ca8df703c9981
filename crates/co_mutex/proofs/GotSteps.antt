-- The compare or the add that finds 0, the add that finds more, and the grant swap.
use Rattle.std.proofs.Common.{◌≡◌, ◌≢◌, ℕ, ◌+◌, ◌<◌, inl, None, List, [], ◌∷◌, slice_index, set, length, length-set, refl, sym, ap, ◌∙◌, subst, arith}
use mathlib.Core.Option.{Option as Opt, some, none}
use lib.ListN.{get_elem?}
use Rattle.atomic_table.proofs.Lists.{set_here, set_else}
use Rattle.aio_chain.specs.Chains.{IsChain}
use Rattle.aio_chain.proofs.Chains.{chain_kept}
use Rattle.aio_model.specs.Lock.History.{LockEntry, Got, owner_of, waiters_of, value_of}
use Rattle.co_mutex.specs.Places.{PassPlace, AtRest, Counted, Holds, IsNumbered}
use Rattle.co_mutex.specs.LockWords.{locked_at, handoff_at, head_at, grant_at, next_in}
use Rattle.co_mutex.specs.declared.slot.Slot.{Slot}
use Rattle.co_mutex.specs.declared.slot.Slot.TheVariants.{Value}
use Rattle.co_mutex.specs.Rule.{Baton, Free, Owned, Duty, Offered, owner_in, Fit, IsAt, one_if, grant_word, ListIs, LinkStands, NameStands, Stands}
use Rattle.co_mutex.proofs.Frames.{read_here, read_else, each_set, linked_kept, counts_after, is_at_kept, owned_same}
use Rattle.co_mutex.proofs.Quiet.{named_kept, grant_same, value_kept, list_kept}
use Rattle.co_mutex.proofs.QuietSteps.{at_low}
use Rattle.co_mutex.proofs.Batons.{free_at_zero, fit_more, none_of_length, owned_else, grant_else, holding_zero, low_set, every, named_grown, none_holds, value_home, home_kept}

module _ {T : Type 0} (n : ℕ) (built : T) (h : List (LockEntry T)) (words : List ℕ) (homes : List (Opt (Slot T))) (places : List PassPlace) (b : Baton) (stack : List ℕ) (s : Stands n built h words homes places b stack) (p : ℕ) where
  pub low_fits : (k : ℕ) → k < 3 → k < length words
  low_fits k low = let long = s.long in omega (arith, long, low)

  -- the lock is free: what was found 0 is now 1, and the value is the history's
  pub got : get_elem? places p ≡ some AtRest → slice_index words locked_at ≡ 0 → (get_elem? homes 0 ≡ some (some (Value (value_of built h)))) × Stands n built (Got p ∷ h) (set words locked_at 1) (set homes 0 none) (set places p Holds) (Owned p) stack
  got at found =
      let g = Got p ∷ h in
      let other = set words locked_at 1 in
      let free : b ≡ Free = free_at_zero b _ _ s.baton_stands.fit found in
      let fit = subst (λ k. Fit k (slice_index words locked_at) (slice_index words handoff_at)) free s.baton_stands.fit in
      let unowned : owner_of h ≡ None = s.baton_stands.owner ∙ ap owner_in free in
      let parts = s.counts.parts in
      let nobody : waiters_of h ≡ [] = none_of_length (waiters_of h) (omega (arith, parts, found)) in
      let w = low_set words locked_at 1 (omega arith) in
      let one = read_here words locked_at 1 (low_fits locked_at (omega arith)) in
      let same_handoff = read_else words locked_at handoff_at 1 (λ q. omega arith) in
      let none_one : one_if (owner_of h) ≡ 0 = ap one_if unowned in
      let not_owned : (q : ℕ) → b ≢ Owned q = λ q e. (let bad : Free ≡ Owned q = sym free ∙ e in cc) in
      let home = value_home built h homes places s.value (none_holds h b places s.baton_stands.each not_owned) in (
        home,
        record {
          long = w.long ∙ s.long;
          each = length-set places p Holds ∙ s.each;
          legal = ((unowned, nobody), s.legal);
          below = s.below;
          counts = counts_after h g (slice_index words locked_at) (slice_index other locked_at) places p AtRest Holds s.counts at (omega (arith, found, one)) (omega (arith, found, one, none_one));
          baton_stands = record {
            owner = refl;
            fit = (omega (arith, one), same_handoff ∙ fit.1);
            each = each_set (IsAt h b) (IsAt g (Owned p)) places p Holds s.baton_stands.each refl (λ q place ne atq k. is_at_kept h g b (Owned p) q place (λ x. x) (λ x. x) (λ e. absurd (not_owned q e)) (λ e. absurd (ne (sym (owned_same p q e)))) (λ e. absurd (let bad : Free ≡ Duty q = sym free ∙ e in cc)) k);
          };
          grants = each_set (λ q place. slice_index words (grant_at q) ≡ grant_word b q place) (λ q place. slice_index other (grant_at q) ≡ grant_word (Owned p) q place) places p Holds s.grants (w.grants p ∙ s.grants p AtRest at ∙ grant_else b p AtRest (not_owned p) ∙ sym (holding_zero (Owned p) p)) (λ q place ne atq k. w.grants q ∙ k ∙ grant_else b q place (not_owned q) ∙ sym (owned_else p q place (λ e. ne (sym e))));
          value = inl (p, set_here places p Holds (at_low places p AtRest at), set_here homes 0 none (at_low homes 0 _ home));
          lists = record {
            chain = subst (λ k. IsChain (next_in other) k stack) (sym (read_else words locked_at head_at 1 (λ q. omega arith))) (chain_kept (next_in words) (next_in other) _ stack s.lists.chain (every _ stack w.next));
            list = home_kept h g homes (set homes 0 none) stack (set_else homes 0 1 none (λ e. omega arith)) refl (subst (λ k. ListIs k h words homes places stack) free s.lists.list);
            linked = each_set (LinkStands words) (LinkStands other) places p Holds s.lists.linked tt (λ q place ne atq k. linked_kept words other q place (w.next q) k);
          };
          names = record {
            waiting = λ q waits. w.who q ∙ s.names.waiting q waits;
            each = each_set (NameStands h words) (NameStands g other) places p Holds s.names.each tt (λ q place ne atq k. named_grown h g words other q place (λ r. refl) (w.who q) k);
          };
          looks = record {
            numbered = each_set (λ q place. IsNumbered place) (λ q place. IsNumbered place) places p Holds s.looks.numbered tt (λ q place ne atq k. k);
            looker = λ o. absurd (let bad : Owned p ≡ Offered = o in cc);
          };
        },
      )

  -- the add that found more
  pub counted : get_elem? places p ≡ some AtRest → slice_index words locked_at ≢ 0 → Stands n built h (set words locked_at (slice_index words locked_at + 1)) homes (set places p Counted) b stack
  counted at found =
      let more = slice_index words locked_at + 1 in
      let other = set words locked_at more in
      let w = low_set words locked_at more (omega arith) in
      let one = read_here words locked_at more (low_fits locked_at (omega arith)) in
      let same_handoff = read_else words locked_at handoff_at more (λ q. omega arith) in
      let same_head = read_else words locked_at head_at more (λ q. omega arith) in
      let low = at_low places p AtRest at in
      record {
        long = w.long ∙ s.long;
        each = length-set places p Counted ∙ s.each;
        legal = s.legal;
        below = s.below;
        counts = counts_after h h (slice_index words locked_at) (slice_index other locked_at) places p AtRest Counted s.counts at (omega (arith, one)) (omega (arith, one));
        baton_stands = record {
          owner = s.baton_stands.owner;
          fit = subst (λ k. Fit b k (slice_index other handoff_at)) (sym one) (subst (λ k. Fit b more k) (sym same_handoff) (fit_more b _ _ s.baton_stands.fit found));
          each = each_set (IsAt h b) (IsAt h b) places p Counted s.baton_stands.each (s.baton_stands.each p AtRest at) (λ q place ne atq k. k);
        };
        grants = each_set (λ q place. slice_index words (grant_at q) ≡ grant_word b q place) (λ q place. slice_index other (grant_at q) ≡ grant_word b q place) places p Counted s.grants (w.grants p ∙ s.grants p AtRest at ∙ sym (grant_same b p AtRest Counted refl)) (λ q place ne atq k. w.grants q ∙ k);
        value = value_kept built h homes places p AtRest Counted at refl refl s.value;
        lists = record {
          chain = subst (λ k. IsChain (next_in other) k stack) (sym same_head) (chain_kept (next_in words) (next_in other) _ stack s.lists.chain (every _ stack w.next));
          list = list_kept b h words other homes places p AtRest Counted stack (record { long = w.long; grants = w.grants; next = λ q ne. w.next q; who = λ q ne. w.who q; own = λ k. (w.next p, w.who p) }) at refl s.lists.list;
          linked = each_set (LinkStands words) (LinkStands other) places p Counted s.lists.linked tt (λ q place ne atq k. linked_kept words other q place (w.next q) k);
        };
        names = record {
          waiting = λ q waits. w.who q ∙ s.names.waiting q waits;
          each = each_set (NameStands h words) (NameStands h other) places p Counted s.names.each tt (λ q place ne atq k. named_kept h words other q place (w.who q) k);
        };
        looks = record {
          numbered = each_set (λ q place. IsNumbered place) (λ q place. IsNumbered place) places p Counted s.looks.numbered tt (λ q place ne atq k. k);
          looker = λ o. (p, Counted, set_here places p Counted low, tt);
        };
      }
