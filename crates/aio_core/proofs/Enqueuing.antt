-- The enqueue keeps the rule.
use Rattle.std.proofs.Common.{◌+◌, Option, ◌≡◌, ◌≢◌, ℕ, ◌<◌, Bool, true, false, cond, eqb, List, ◌∷◌, length, set, slice_index, bit_or, inl, inr, ⊎_elim, refl, sym, ap, ◌∙◌, subst, arith}
use Rattle.std.proofs.lemmas.Bool.{eq-eqb, ne_eqb}
use mathlib.Core.Option.{some, none}
use lib.ListN.{get_elem?, length-set}
use Rattle.atomic_table.specs.Table.{Me, keeps, step, Allows}
use Rattle.aio_model.specs.Loop.FlagsWord.{word_of}
use Rattle.aio_model.specs.Loop.History.{Sizes, EnqueueAsks, Enqueue, History}
use Rattle.aio_model.specs.Loop.Flags.{has_life, is_lot, is_pending, flags_of, is_once}
use Rattle.aio_model.specs.Loop.Lists.{stack_of, out_of}
use Rattle.aio_model.specs.Loop.Legal.{IsLegal, MayAsk}
use Rattle.aio_model.specs.Loop.InFlight.{Phase, ForNothing, ForIndex, AtRest, Announced, ToStore, flight_of}
use Rattle.aio_model.proofs.AnnouncedOnce.{lot_is_no_handle}
use Rattle.aio_chain.specs.Chains.{IsChain}
use Rattle.aio_chain.proofs.Chains.{chain_kept}
use Rattle.aio_core.specs.Words.{head_at, notified_at, notify_me_at, notifier_at, flags_at, next_at, index_count, word_count, flags_word, next_in}
use Rattle.aio_core.specs.Known.{EnqueueFetchOr, Known, numbers_of}
use Rattle.aio_core.specs.Rule.{IsOwed, IsClaimed, Owes, push_of, store_of, Stands, Kept}
use Rattle.aio_core.specs.Standing.{mask_of, done, after_enqueue, Enqueues}
use Rattle.aio_core.specs.Plays.{Enqueued, enqueued}
use Rattle.aio_core.proofs.Slots.{same_lot, same_hand, no_lot_here, slots_kept}
use Rattle.table_seats.proofs.Entries.{owns_first}
use Rattle.aio_core.proofs.Seats.{seats_make, makes_of, same_view}
use Rattle.aio_core.proofs.Histories.{idle_has_none, idle_was_not_put, owed_still}
use Rattle.aio_core.proofs.Masks.{asked_with-mask_of, enqueued_flags, enqueued_word}
use Rattle.aio_core.proofs.Flags.{events_apart, word_alive, handle_lives, read_else, flags_of-enqueue, flags_of-enqueue_other, flags_change, flags_again, word_same, may_ask_handle}
use Rattle.aio_core.proofs.Lists.{claimed_still, each_all, owes_kept, has_out_kept, lists_after}
use Rattle.aio_core.proofs.Sleeping.{something, no_reason, sleep_kept}
use Rattle.aio_core.proofs.Wanting.{wanted_enqueue, announced_enqueue, stores_enqueued, pushes_enqueued}

-- a lot is no handle
pub lot_not_handle : (sizes : Sizes) (j i : ℕ) → is_lot sizes j ≡ true → i < sizes.handles → eqb j i ≡ false
lot_not_handle sizes j i lot handle =
    ne_eqb j i (λ q. lot_is_no_handle sizes j lot (subst (λ k. k < sizes.handles) (sym q) handle))

-- what follows an index stays when a flags word changes
pub next_beside_flags : (words : List ℕ) (i x j : ℕ) → next_in (set words (flags_at i) x) j ≡ next_in words j
next_beside_flags words i x j = read_else words (flags_at i) (next_at j) x (λ q. omega arith)

pub head_beside_flags : (words : List ℕ) (i x : ℕ) → slice_index (set words (flags_at i) x) head_at ≡ slice_index words head_at
head_beside_flags words i x = read_else words (flags_at i) head_at x (λ q. omega arith)

-- what the seat knows after an enqueue
abbrev pub after_enqueuing : Known → History → ℕ → EnqueueAsks → Known
after_enqueuing v h i asked =
    let flags = flags_of i h in
    let entry = Enqueue i asked v.first flags in
    record v { seen = entry ∷ h; mine = entry ∷ v.mine; did = done EnqueueFetchOr (flags_at i) (word_of flags) ∷ v.did; phase = after_enqueue i flags }

module _ (sizes : Sizes) (h : History) (i s : ℕ) (asked : EnqueueAsks) (legal : IsLegal sizes h) (below : i < index_count sizes) where
  -- an index that wasn't pending is owed by its enqueuer
  newly_owed : is_pending i h ≡ false → IsOwed sizes (Enqueue i asked s (flags_of i h) ∷ h) s i
  newly_owed idle =
      let e : eqb i i ≡ true = eq-eqb i i refl in
      let unput = idle_was_not_put sizes h i legal idle in
      let none = idle_has_none i h idle in
      record {
        below = below;
        announced = rw (e, unput) refl;
        by_it = rw (e, none) refl;
      }

  owed_after : (words : List ℕ) (b : Bool) → is_pending i h ≡ b → Owes sizes words (Enqueue i asked s (flags_of i h) ∷ h) s (cond b (ToStore (ForIndex i)) (Announced i))
  owed_after words true is = tt
  owed_after words false is = newly_owed is

-- a seat that is in flight for nothing
pub record IsCalm (p : Phase) : Type 0 where
  pub pushes : push_of p ≡ ForNothing
  pub stores : store_of p ≡ ForNothing
  pub flies : flight_of p ≡ ForNothing

pub calm_at_rest : (p : Phase) → p ≡ AtRest → IsCalm p
calm_at_rest p e = record { pushes = ap push_of e; stores = ap store_of e; flies = ap flight_of e }

module _ (sizes : Sizes) (h : History) (words : List ℕ) (views : List Known) (id : ℕ) (v : Known) (i : ℕ) (asked : EnqueueAsks) where
  pub enqueue_stands : Stands sizes h words views → get_elem? views id ≡ some v → 0 < v.count → IsCalm v.phase → has_life sizes i h ≡ true → i < index_count sizes → MayAsk sizes i asked v.first h → ((beside j job : ℕ) (u : Known) → beside ≢ id → get_elem? views beside ≡ some u → 0 < u.count → IsClaimed sizes h u.first j job → eqb j i ≡ false) → (x : ℕ) → x ≡ word_of (enqueued_flags asked (flags_of i h)) → Stands sizes (Enqueue i asked v.first (flags_of i h) ∷ h) (set words (flags_at i) x) (set views id (after_enqueuing v h i asked))
  enqueue_stands stand at numbered rest alive below may others x is =
      let entry = Enqueue i asked v.first (flags_of i h) in
      let w = after_enqueuing v h i asked in
      let words' = set words (flags_at i) x in
      let same_next : (j : ℕ) → next_in words' j ≡ next_in words j = next_beside_flags words i x in
      let long : length words' ≡ word_count sizes = length-set words (flags_at i) x ∙ stand.long in
      let new_word : flags_word sizes i (entry ∷ h) ≡ x = word_alive sizes i (entry ∷ h) alive ∙ ap word_of (flags_of-enqueue i v.first asked (flags_of i h) h) ∙ sym is in
      record {
        long = long;
        legal = ((alive, refl, may), stand.legal);
        seats = seats_make sizes h views id entry v w stand.seats at (same_view v w refl refl refl) (owns_first (numbers_of v) numbered) refl refl numbered;
        flags = flags_change sizes h (entry ∷ h) words i x stand.flags stand.long below new_word (λ j ne. word_same sizes j h (entry ∷ h) refl (flags_of-enqueue_other j i v.first asked (flags_of i h) h ne));
        lists = lists_after sizes h (entry ∷ h) words words' views id w stand.lists
            (subst (λ k. IsChain (next_in words') k (stack_of h)) (sym (head_beside_flags words i x)) (chain_kept (next_in words) (next_in words') (slice_index words head_at) (stack_of h) stand.lists.stack (each_all _ (stack_of h) same_next)))
            (owed_after sizes h i v.first asked stand.legal below words' (is_pending i h) refl)
            (λ beside u ne atu. owes_kept sizes words words' h (entry ∷ h) u.first u.phase (λ j busy owed. (owed_still sizes h entry u.first j owed refl refl, same_next j)) (λ j job busy c. claimed_still sizes h entry u.first j job refl (others beside j job u ne atu ((stand.seats.tables beside u atu).active busy) c) refl c))
            (has_out_kept words words' h (entry ∷ h) v refl (each_all _ (out_of h) same_next) (stand.lists.out id v at))
            (λ beside u ne atu. has_out_kept words words' h (entry ∷ h) u refl (each_all _ (out_of h) same_next));
        events = events_apart h (entry ∷ h) words (flags_at i) x stand.events (λ e low q. omega arith) (λ e. refl);
        sleep = sleep_kept sizes h (entry ∷ h) words words' views id v w (done EnqueueFetchOr (flags_at i) (word_of (flags_of i h))) stand.seats at refl refl refl stand.sleep
            (record {
              wanted = λ r is. ⊎_elim (λ old. inl old) (λ e. inr (stores_enqueued i (is_pending i h) ∙ e)) (wanted_enqueue r i v.first asked (flags_of i h) h is);
              stores = λ r is e. absurd (something r (entry ∷ h) is (sym rest.stores ∙ e));
              flies = λ r is e. absurd (something r (entry ∷ h) is (sym rest.flies ∙ e));
              notified = read_else words (flags_at i) notified_at x (λ q. omega arith);
              notifier = read_else words (flags_at i) notifier_at x (λ q. omega arith);
            })
            (read_else words (flags_at i) notify_me_at x (λ q. omega arith))
            (λ j announced. ⊎_elim (λ old. inr (old, λ e. absurd (no_reason j (sym rest.pushes ∙ e)))) (λ t. inl (pushes_enqueued i (is_pending i h) t.1 ∙ ap ForIndex (sym t.0))) (announced_enqueue j i v.first asked (flags_of i h) h announced))
            (λ no j put. (put, same_next j));
      }

pub enqueue_allowed : {J : Type 0} (number : J → ℕ) (sizes : Sizes) (slots id i : ℕ) (me : Me (Option J) Known) (asked : EnqueueAsks) → 0 < me.0.count → me.0.phase ≡ AtRest → is_once asked ≡ false → i < sizes.handles → Allows (Kept number sizes) slots id me (flags_at i) (λ n. bit_or n (mask_of asked)) (enqueued (step slots (flags_at i) (mask_of asked) 0 none) me)
enqueue_allowed number sizes slots id i me asked numbered rest once handle s kept long at fits =
    let h = kept.0 in
    let stand = kept.1 in
    let flags = flags_of i h in
    let below : i < index_count sizes = omega arith in
    let found : slice_index s.words (flags_at i) ≡ word_of flags = flags_again sizes h s.words i stand.flags below (handle_lives sizes i h handle) in
    let word : bit_or (slice_index s.words (flags_at i)) (mask_of asked) ≡ word_of (enqueued_flags asked flags) = ap (λ n. bit_or n (mask_of asked)) found ∙ enqueued_word asked flags in
    let now = enqueue_stands sizes h s.words s.views id me.0 i asked stand at numbered (calm_at_rest me.0.phase rest) (handle_lives sizes i h handle) below (may_ask_handle sizes i me.0.first asked h once handle) (λ beside j job u ne atu full c. lot_not_handle sizes j i c.lot handle) (bit_or (slice_index s.words (flags_at i)) (mask_of asked)) word in
    let w = after_enqueuing me.0 h i asked in
    let enqueues : Enqueues i asked flags me.0 w = record { makes = makes_of sizes h (Enqueue i asked me.0.first flags) me.0 w (stand.seats.parts.each id me.0 at) (stand.seats.tables id me.0 at) numbered refl refl now.legal; rest = refl } in
    let told : Enqueued i (mask_of asked) (slice_index s.words (flags_at i)) me.0 w = record { flags = flags; found_is = found; enqueues = subst (λ a. Enqueues i a flags me.0 w) (sym (asked_with-mask_of asked)) enqueues } in
    (w, keeps, tt, (Enqueue i asked me.0.first flags ∷ h, now, slots_kept number sizes h (Enqueue i asked me.0.first flags ∷ h) s.homes s.views id me.0 w kept.2 at refl (λ m low. (same_lot (sizes.handles + m) (Enqueue i asked me.0.first flags) h refl refl (no_lot_here sizes.handles m i handle) refl, same_hand (sizes.handles + m) me.0.stage w.stage refl refl))), (refl, λ j same. let is_i : i ≡ j = omega arith in subst (λ k. Enqueued k (mask_of asked) (slice_index s.words (flags_at i)) me.0 w) is_i told))
