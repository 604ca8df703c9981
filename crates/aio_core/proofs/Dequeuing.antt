-- The dequeue of the index at hand keeps the rule.
use Rattle.std.proofs.Common.{◌+◌, Option, ◌≡◌, ◌≢◌, ℕ, ◌<◌, Bool, true, false, eqb, Some, None, List, ◌∷◌, ◌++◌, set, slice_index, bit_and, inl, inr, refl, sym, ap, ◌∙◌, subst, arith}
use Rattle.std.proofs.lemmas.Bool.{ne_eqb}
use mathlib.Core.Option.{some, none}
use lib.ListN.{get_elem?, length-set}
use Rattle.atomic_table.specs.Table.{Me, keeps, step, Allows}
use Rattle.aio_model.specs.Loop.FlagsWord.{word_of}
use Rattle.aio_model.specs.Loop.History.{Sizes, Entry, Dequeue, History}
use Rattle.aio_model.specs.Loop.Flags.{has_life, is_pending, flags_of, are_due, ends_round}
use Rattle.aio_model.specs.Loop.Lists.{head_of, stack_of, out_of}
use Rattle.aio_model.specs.Loop.Seats.{owns, home}
use Rattle.aio_model.proofs.AnnouncedOnce.{fits, head_is_pending, out_of-dequeue}
use Rattle.aio_chain.specs.Chains.{IsChain, AreChains}
use Rattle.aio_chain.proofs.Chains.{Each, chain_kept, chains_kept}
use Rattle.aio_core.specs.Words.{head_at, notified_at, notify_me_at, notifier_at, flags_at, flags_word, next_in}
use Rattle.aio_core.specs.Known.{DequeueFetchAnd, Known, numbers_of}
use Rattle.aio_core.specs.Rule.{is_at_hand, IsOwed, IsOut, NoneEmpty, Stands, Kept}
use Rattle.aio_core.specs.Standing.{done, is_empty, Makes, Dequeues}
use Rattle.aio_core.specs.Plays.{Dequeued, dequeued}
use Rattle.aio_core.proofs.Slots.{same_lot, no_lot_here, slots_kept}
use Rattle.aio_core.proofs.Seats.{seats_make, makes_of, same_view}
use Rattle.aio_core.proofs.Histories.{pending_below, announced_alone, owed_still}
use Rattle.aio_core.proofs.Masks.{dequeued_flags, dequeued_word}
use Rattle.aio_core.proofs.Flags.{events_apart, read_else, word_alive, flags_of-dequeue, flags_of-dequeue_other, flags_change, flags_again, word_same}
use Rattle.aio_core.proofs.Lists.{claimed_still, each_all, owes_kept, no_other_home, lists_after}
use Rattle.aio_core.proofs.Sleeping.{sleep_kept}
use Rattle.aio_core.proofs.Wanting.{wanted_dequeue, announced_dequeue}
use Rattle.aio_core.proofs.Sliced.{chains_empty}
use Rattle.aio_core.proofs.Enqueuing.{next_beside_flags, head_beside_flags}

abbrev pub after_dequeue : Known → History → ℕ → Known
after_dequeue v h i =
    let flags = flags_of i h in
    let entry = Dequeue i (are_due flags) in
    record v { seen = entry ∷ h; mine = entry ∷ v.mine; did = done DequeueFetchAnd (flags_at i) (word_of flags) ∷ v.did; stage = record v.stage { hand = None; job = None } }

same_tail : (i : ℕ) (xs ys : List ℕ) → i ∷ xs ≡ i ∷ ys → xs ≡ ys
same_tail i xs ys e = cc

pub same_older : (e : Entry) (xs ys : History) → e ∷ xs ≡ e ∷ ys → xs ≡ ys
same_older e xs ys eq = cc

pub same_index : (i j : ℕ) → Some i ≡ Some j → i ≡ j
same_index i j e = cc

-- a dequeue of another index leaves the round
goes_on : (j i : ℕ) (ran : Bool) → j ≢ i → ends_round j (Dequeue i ran) ≡ false
goes_on j i ran ne = let e : eqb j i ≡ false = ne_eqb j i ne in rw e refl

module _ (sizes : Sizes) (h : History) (words : List ℕ) (views : List Known) (id : ℕ) (v : Known) (i : ℕ) where
  -- the index at hand is the first of out
  pub at_hand : Stands sizes h words views → get_elem? views id ≡ some v → owns (numbers_of v) home ≡ true → v.stage.hand ≡ Some i → (rest : List ℕ) × (out_of h ≡ i ∷ rest) × AreChains (next_in words) v.stage.slices rest × NoneEmpty v.stage.slices
  at_hand stand at is_home hand =
      let now = stand.lists.out id v at is_home in
      let out : IsOut (next_in words) v.stage.slices (Some i) (out_of h) = subst (λ o. IsOut (next_in words) v.stage.slices o (out_of h)) hand now.0 in
      (out.0, out.1, out.2, now.1)

  pub hand_is_pending : Stands sizes h words views → (rest : List ℕ) → out_of h ≡ i ∷ rest → is_pending i h ≡ true
  hand_is_pending stand rest is =
      head_is_pending sizes h i (are_due (flags_of i h)) (fits sizes h i stand.legal) (ap head_of is)

  pub dequeue_stands : Stands sizes h words views → get_elem? views id ≡ some v → 0 < v.count → owns (numbers_of v) home ≡ true → v.stage.hand ≡ Some i → (x : ℕ) → x ≡ word_of (dequeued_flags (flags_of i h)) → Stands sizes (Dequeue i (are_due (flags_of i h)) ∷ h) (set words (flags_at i) x) (set views id (after_dequeue v h i)) × (is_empty v.stage.slices ≡ is_empty (out_of (Dequeue i (are_due (flags_of i h)) ∷ h)))
  dequeue_stands stand at numbered is_home hand x is =
      let ran = are_due (flags_of i h) in
      let entry = Dequeue i ran in
      let w = after_dequeue v h i in
      let held = at_hand stand at is_home hand in
      let first : head_of (out_of h) ≡ Some i = ap head_of held.1 in
      let pending = hand_is_pending stand held.0 held.1 in
      let below = pending_below sizes h i stand.legal pending in
      let alive : has_life sizes i h ≡ true = (fits sizes h i stand.legal).alive pending in
      let words' = set words (flags_at i) x in
      let same_next : (j : ℕ) → next_in words' j ≡ next_in words j = next_beside_flags words i x in
      let new_word : flags_word sizes i (entry ∷ h) ≡ x = word_alive sizes i (entry ∷ h) alive ∙ ap word_of (flags_of-dequeue i ran h) ∙ sym is in
      let rest_is : held.0 ≡ out_of (entry ∷ h) = same_tail i held.0 (out_of (entry ∷ h)) (sym held.1 ∙ out_of-dequeue h i ran first) in
      let left : AreChains (next_in words') v.stage.slices (out_of (entry ∷ h)) = subst (AreChains (next_in words') v.stage.slices) rest_is (chains_kept (next_in words) (next_in words') v.stage.slices held.0 held.2 (each_all _ held.0 same_next)) in
      let apart : (j n : ℕ) → IsOwed sizes h n j → j ≢ i = λ j n owed. (subst (Each (λ k. j ≢ k)) held.1 (announced_alone sizes h j stand.legal owed.announced).1).0 in (
        record {
          long = length-set words (flags_at i) x ∙ stand.long;
          legal = ((first, refl), stand.legal);
          seats = seats_make sizes h views id entry v w stand.seats at (same_view v w refl refl refl) is_home refl refl numbered;
          flags = flags_change sizes h (entry ∷ h) words i x stand.flags stand.long below new_word (λ j ne. word_same sizes j h (entry ∷ h) refl (flags_of-dequeue_other j i ran h ne));
          lists = lists_after sizes h (entry ∷ h) words words' views id w stand.lists
              (subst (λ k. IsChain (next_in words') k (stack_of h)) (sym (head_beside_flags words i x)) (chain_kept (next_in words) (next_in words') (slice_index words head_at) (stack_of h) stand.lists.stack (each_all _ (stack_of h) same_next)))
              (owes_kept sizes words words' h (entry ∷ h) v.first v.phase (λ j busy owed. (owed_still sizes h entry v.first j owed (goes_on j i ran (apart j v.first owed)) refl, same_next j)) (λ j job busy c. claimed_still sizes h entry _ j job refl refl refl c) (stand.lists.owed id v at))
              (λ beside u ne atu. owes_kept sizes words words' h (entry ∷ h) u.first u.phase (λ j busy owed. (owed_still sizes h entry u.first j owed (goes_on j i ran (apart j u.first owed)) refl, same_next j)) (λ j job busy c. claimed_still sizes h entry _ j job refl refl refl c))
              (λ own. (left, held.3))
              (λ beside u ne atu old. no_other_home sizes h (entry ∷ h) views id beside v u words' stand.seats at atu ne is_home);
          events = events_apart h (entry ∷ h) words (flags_at i) x stand.events (λ e low q. omega arith) (λ e. refl);
          sleep = sleep_kept sizes h (entry ∷ h) words words' views id v w (done DequeueFetchAnd (flags_at i) (word_of (flags_of i h))) stand.seats at refl refl refl stand.sleep
              (record {
                wanted = λ r wanted. inl (wanted_dequeue r i ran h wanted);
                stores = λ r wanted e. e;
                flies = λ r wanted e. e;
                notified = read_else words (flags_at i) notified_at x (λ q. omega arith);
                notifier = read_else words (flags_at i) notifier_at x (λ q. omega arith);
              })
              (read_else words (flags_at i) notify_me_at x (λ q. omega arith))
              (λ j announced. inr (announced_dequeue j i ran h announced, λ e. e))
              (λ no j put. absurd (let both : true ≡ false = sym is_home ∙ no in cc));
        },
        chains_empty (next_in words') v.stage.slices (out_of (entry ∷ h)) left held.3,
      )

pub dequeue_allowed : {J : Type 0} (number : J → ℕ) (sizes : Sizes) (slots id i : ℕ) (me : Me (Option J) Known) → 0 < me.0.count → owns (numbers_of me.0) home ≡ true → i < sizes.handles → me.0.stage.hand ≡ Some i → Allows (Kept number sizes) slots id me (flags_at i) (λ n. bit_and n 18446744073709551596) (dequeued (step slots (flags_at i) 18446744073709551596 0 none) me)
dequeue_allowed number sizes slots id i me numbered is_home handle hand s kept long at fits_word =
    let h = kept.0 in
    let stand = kept.1 in
    let v = me.0 in
    let flags = flags_of i h in
    let held = at_hand sizes h s.words s.views id v i stand at is_home hand in
    let pending = hand_is_pending sizes h s.words s.views id v i stand held.0 held.1 in
    let found : slice_index s.words (flags_at i) ≡ word_of flags = flags_again sizes h s.words i stand.flags (pending_below sizes h i stand.legal pending) ((fits sizes h i stand.legal).alive pending) in
    let word : bit_and (slice_index s.words (flags_at i)) 18446744073709551596 ≡ word_of (dequeued_flags flags) = ap (λ n. bit_and n 18446744073709551596) found ∙ dequeued_word flags in
    let now = dequeue_stands sizes h s.words s.views id v i stand at numbered is_home hand (bit_and (slice_index s.words (flags_at i)) 18446744073709551596) word in
    let w = after_dequeue v h i in
    let is = stand.seats.parts.each id v at in
    let makes : Makes (Dequeue i (are_due flags)) v w = makes_of sizes h (Dequeue i (are_due flags)) v w is (stand.seats.tables id v at) numbered refl refl now.0.legal in
    let dequeues : Dequeues i flags v w = record { makes = makes; were = ap (flags_of i) (same_older (Dequeue i (are_due flags)) h (makes.others ++ v.seen) makes.seen); left = now.1; rest = refl } in
    let told : Dequeued i (slice_index s.words (flags_at i)) v w = record { flags = flags; found_is = found; dequeues = dequeues } in
    (w, keeps, tt, (Dequeue i (are_due flags) ∷ h, now.0, slots_kept number sizes h (Dequeue i (are_due flags) ∷ h) s.homes s.views id me.0 w kept.2 at refl (λ m low. (same_lot (sizes.handles + m) (Dequeue i (are_due flags)) h refl refl refl (no_lot_here sizes.handles m i handle), record { hand = sym (ap (is_at_hand (sizes.handles + m)) hand ∙ no_lot_here sizes.handles m i handle); job = λ e. absurd (let none_held : false ≡ true = sym (ap (is_at_hand (sizes.handles + m)) hand ∙ no_lot_here sizes.handles m i handle) ∙ e in cc) }))), (refl, λ j eq. let index : i ≡ j = same_index i j (sym hand ∙ eq) in subst (λ k. Dequeued k (slice_index s.words (flags_at i)) v w) index told))
