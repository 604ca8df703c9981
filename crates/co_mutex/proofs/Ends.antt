-- What the rule gives: its start, and what is known where all passes are at rest.
use Rattle.std.proofs.Common.{◌≡◌, ℕ, ◌≤◌, inr, Bool, false, None, List, [], ◌∷◌, slice_index, length, refl, sym, ap, ◌∙◌, subst, arith, suc}
use mathlib.Core.Option.{Option as Opt, some}
use lib.ListN.{get_elem?}
use Rattle.aio_model.specs.Lock.History.{LockEntry, owner_of, waiters_of, value_of}
use Rattle.co_mutex.specs.Places.{PassPlace, AtRest, Holds, is_in_line, is_before_push, count}
use Rattle.co_mutex.specs.LockWords.{locked_at, handoff_at, head_at, grant_at, word_count}
use Rattle.co_mutex.specs.declared.slot.Slot.{Slot}
use Rattle.co_mutex.specs.declared.slot.Slot.TheVariants.{Value}
use Rattle.co_mutex.specs.Rule.{Popped, Baton, Free, Owned, Offered, EachPlace, owner_in, IsAt, Stands}
use Rattle.co_mutex.proofs.Counting.{bit, count_low}
use Rattle.co_mutex.proofs.Batons.{free_at_zero, none_holds, value_home}

count_none : (test : PassPlace → Bool) (places : List PassPlace) → EachPlace (λ p place. test place ≡ false) places → count test places ≡ 0
count_none test [] h = refl
count_none test (x ∷ xs) h =
    let here : bit (test x) ≡ 0 = ap bit (h 0 x refl) in
    let rest = count_none test xs (λ p place at. h (suc p) place at) in
    omega (arith, here, rest)

module _ {T : Type 0} (n : ℕ) (built : T) (h : List (LockEntry T)) (words : List ℕ) (homes : List (Opt (Slot T))) (places : List PassPlace) (b : Baton) (stack : List ℕ) where
  -- all passes are at rest, so the lock is free and the value at home
  pub all_rest : Stands n built h words homes places b stack → EachPlace (λ p place. place ≡ AtRest) places → (owner_of h ≡ None) × (waiters_of h ≡ []) × (get_elem? homes 0 ≡ some (some (Value (value_of built h))))
  all_rest s rests =
      let line = s.counts.line in
      let none_in = count_none is_in_line places (λ p place at. ap is_in_line (rests p place at)) in
      let found : slice_index words locked_at ≡ 0 = omega (arith, line, none_in) in
      let free : b ≡ Free = free_at_zero b _ _ s.baton_stands.fit found in
      let parts = s.counts.parts in
      let short : length (waiters_of h) ≡ 0 = omega (arith, parts, found) in
      (s.baton_stands.owner ∙ ap owner_in free, empty (waiters_of h) short, value_home built h homes places s.value (none_holds h b places s.baton_stands.each (λ q e. (let bad : Free ≡ Owned q = sym free ∙ e in cc))))
    where
      empty : (xs : List ℕ) → length xs ≡ 0 → xs ≡ []
      empty [] e = refl
      empty (x ∷ xs) e = absurd (omega (arith, e))

  -- the popped list is at home then
  pub list_rests : Stands n built h words homes places b stack → EachPlace (λ p place. place ≡ AtRest) places → (popped : List ℕ) × (last : ℕ) × (get_elem? homes 1 ≡ some (some (Popped popped last)))
  list_rests s rests =
      let line = s.counts.line in
      let none_in = count_none is_in_line places (λ p place at. ap is_in_line (rests p place at)) in
      let found : slice_index words locked_at ≡ 0 = omega (arith, line, none_in) in
      let free : b ≡ Free = free_at_zero b _ _ s.baton_stands.fit found in
      let list = subst (λ k. Rattle.co_mutex.specs.Rule.ListIs k h words homes places stack) free s.lists.list in
      (list.popped, list.last, list.there)

  -- the add never wraps, and the popped list never outgrows its room
  pub bounds : Stands n built h words homes places b stack → (slice_index words locked_at ≤ n) × (length (waiters_of h) ≤ n)
  bounds s =
      let line = s.counts.line in
      let parts = s.counts.parts in
      let low = count_low is_in_line places in
      let each = s.each in
      (omega (arith, line, low, each), omega (arith, line, parts, low, each))

module _ {T : Type 0} where
  -- the start
  pub start_stands : (n last : ℕ) (built : T) (words : List ℕ) (places : List PassPlace) → length words ≡ word_count n → ((k : ℕ) → slice_index words k ≡ 0) → length places ≡ n → EachPlace (λ p place. place ≡ AtRest) places → Stands n built [] words (some (Value built) ∷ some (Popped [] last) ∷ []) places Free []
  start_stands n last built words places long zeros each rests =
      let at_rest : (P : ℕ → PassPlace → Type 0) → ((p : ℕ) → P p AtRest) → EachPlace P places = λ P f p place at. subst (P p) (sym (rests p place at)) (f p) in
      record {
        long = long;
        each = each;
        legal = tt;
        below = λ q w. absurd w;
        counts = record {
          line = zeros locked_at ∙ sym (count_none is_in_line places (λ p place at. ap is_in_line (rests p place at)));
          parts = (let a = zeros locked_at in let c = count_none is_before_push places (λ p place at. ap is_before_push (rests p place at)) in omega (arith, a, c));
        };
        baton_stands = record { owner = refl; fit = (zeros locked_at, zeros handoff_at); each = at_rest (IsAt {T = T} [] Free) (λ p. ((λ w. w), (λ e. (let bad : Free ≡ Owned p = e in cc)))) };
        grants = at_rest _ (λ p. zeros (grant_at p));
        value = inr (at_rest _ (λ p e. (let bad : AtRest ≡ Holds = e in cc)), refl);
        lists = record { chain = zeros head_at; list = record { popped = []; last = last; there = refl; waiters = refl }; linked = at_rest _ (λ p. tt) };
        names = record { waiting = λ q w. absurd w; each = at_rest _ (λ p. tt) };
        looks = record { numbered = at_rest _ (λ p. tt); looker = λ o. absurd (let bad : Free ≡ Offered = o in cc) };
      }
