-- The cancel keeps the rule.
use Rattle.std.proofs.Common.{◌+◌, Option, ◌≡◌, ℕ, ◌<◌, List, ◌∷◌, set, slice_index, bit_and, inl, inr, refl, sym, ap, ◌∙◌, subst, arith}
use mathlib.Core.Option.{some, none}
use lib.ListN.{get_elem?, length-set}
use Rattle.atomic_table.specs.Table.{Me, keeps, step, Allows}
use Rattle.aio_model.specs.Loop.FlagsWord.{word_of}
use Rattle.aio_model.specs.Loop.History.{Sizes, Cancel, History}
use Rattle.aio_model.specs.Loop.Flags.{flags_of}
use Rattle.aio_model.specs.Loop.Lists.{stack_of, out_of}
use Rattle.aio_chain.specs.Chains.{IsChain}
use Rattle.aio_chain.proofs.Chains.{chain_kept}
use Rattle.aio_core.specs.Words.{head_at, notified_at, notify_me_at, notifier_at, flags_at, index_count, flags_word, next_in}
use Rattle.aio_core.specs.Known.{CancelFetchAnd, Known, numbers_of}
use Rattle.aio_core.specs.Rule.{Stands, Kept}
use Rattle.aio_core.specs.Standing.{done, Cancels}
use Rattle.aio_core.specs.Plays.{Canceled, canceled}
use Rattle.aio_core.proofs.Slots.{same_lot, same_hand, slots_kept}
use Rattle.table_seats.proofs.Entries.{owns_first}
use Rattle.aio_core.proofs.Seats.{seats_make, makes_of, same_view}
use Rattle.aio_core.proofs.Histories.{owed_still}
use Rattle.aio_core.proofs.Masks.{canceled_flags, canceled_word}
use Rattle.aio_core.proofs.Flags.{events_apart, read_else, word_alive, handle_lives, flags_of-cancel, flags_of-cancel_other, flags_change, flags_again, word_same}
use Rattle.aio_core.proofs.Lists.{claimed_still, each_all, owes_kept, has_out_kept, lists_after}
use Rattle.aio_core.proofs.Sleeping.{sleep_kept}
use Rattle.aio_core.proofs.Wanting.{wanted_cancel}
use Rattle.aio_core.proofs.Enqueuing.{next_beside_flags, head_beside_flags}

abbrev pub after_canceling : Known → History → ℕ → Known
after_canceling v h i =
    let flags = flags_of i h in
    let entry = Cancel i v.first flags in
    record v { seen = entry ∷ h; mine = entry ∷ v.mine; did = done CancelFetchAnd (flags_at i) (word_of flags) ∷ v.did }

module _ (sizes : Sizes) (h : History) (words : List ℕ) (views : List Known) (id : ℕ) (v : Known) (i : ℕ) where
  pub cancel_stands : Stands sizes h words views → get_elem? views id ≡ some v → 0 < v.count → i < sizes.handles → (x : ℕ) → x ≡ word_of (canceled_flags (flags_of i h)) → Stands sizes (Cancel i v.first (flags_of i h) ∷ h) (set words (flags_at i) x) (set views id (after_canceling v h i))
  cancel_stands stand at numbered handle x is =
      let below : i < index_count sizes = omega arith in
      let entry = Cancel i v.first (flags_of i h) in
      let w = after_canceling v h i in
      let alive = handle_lives sizes i h handle in
      let words' = set words (flags_at i) x in
      let same_next : (j : ℕ) → next_in words' j ≡ next_in words j = next_beside_flags words i x in
      let new_word : flags_word sizes i (entry ∷ h) ≡ x = word_alive sizes i (entry ∷ h) alive ∙ ap word_of (flags_of-cancel i v.first (flags_of i h) h) ∙ sym is in
      record {
        long = length-set words (flags_at i) x ∙ stand.long;
        legal = ((handle, refl), stand.legal);
        seats = seats_make sizes h views id entry v w stand.seats at (same_view v w refl refl refl) (owns_first (numbers_of v) numbered) refl refl numbered;
        flags = flags_change sizes h (entry ∷ h) words i x stand.flags stand.long below new_word (λ j ne. word_same sizes j h (entry ∷ h) refl (flags_of-cancel_other j i v.first (flags_of i h) h ne));
        lists = lists_after sizes h (entry ∷ h) words words' views id w stand.lists
            (subst (λ k. IsChain (next_in words') k (stack_of h)) (sym (head_beside_flags words i x)) (chain_kept (next_in words) (next_in words') (slice_index words head_at) (stack_of h) stand.lists.stack (each_all _ (stack_of h) same_next)))
            (owes_kept sizes words words' h (entry ∷ h) v.first v.phase (λ j busy owed. (owed_still sizes h entry v.first j owed refl refl, same_next j)) (λ j job busy c. claimed_still sizes h entry _ j job refl refl refl c) (stand.lists.owed id v at))
            (λ beside u ne atu. owes_kept sizes words words' h (entry ∷ h) u.first u.phase (λ j busy owed. (owed_still sizes h entry u.first j owed refl refl, same_next j)) (λ j job busy c. claimed_still sizes h entry _ j job refl refl refl c))
            (has_out_kept words words' h (entry ∷ h) v refl (each_all _ (out_of h) same_next) (stand.lists.out id v at))
            (λ beside u ne atu. has_out_kept words words' h (entry ∷ h) u refl (each_all _ (out_of h) same_next));
        events = events_apart h (entry ∷ h) words (flags_at i) x stand.events (λ e low q. omega arith) (λ e. refl);
        sleep = sleep_kept sizes h (entry ∷ h) words words' views id v w (done CancelFetchAnd (flags_at i) (word_of (flags_of i h))) stand.seats at refl refl refl stand.sleep
            (record {
              wanted = λ r is. inl (wanted_cancel r i v.first (flags_of i h) h is);
              stores = λ r is e. e;
              flies = λ r is e. e;
              notified = read_else words (flags_at i) notified_at x (λ q. omega arith);
              notifier = read_else words (flags_at i) notifier_at x (λ q. omega arith);
            })
            (read_else words (flags_at i) notify_me_at x (λ q. omega arith))
            (λ j announced. inr (announced, λ e. e))
            (λ no j put. (put, same_next j));
      }

pub cancel_allowed : {J : Type 0} (number : J → ℕ) (sizes : Sizes) (slots id i : ℕ) (me : Me (Option J) Known) → 0 < me.0.count → i < sizes.handles → Allows (Kept number sizes) slots id me (flags_at i) (λ n. bit_and n 18446744073709551613) (canceled (step slots (flags_at i) 18446744073709551613 0 none) me)
cancel_allowed number sizes slots id i me numbered handle s kept long at fits =
    let h = kept.0 in
    let stand = kept.1 in
    let flags = flags_of i h in
    let below : i < index_count sizes = omega arith in
    let found : slice_index s.words (flags_at i) ≡ word_of flags = flags_again sizes h s.words i stand.flags below (handle_lives sizes i h handle) in
    let word : bit_and (slice_index s.words (flags_at i)) 18446744073709551613 ≡ word_of (canceled_flags flags) = ap (λ n. bit_and n 18446744073709551613) found ∙ canceled_word flags in
    let now = cancel_stands sizes h s.words s.views id me.0 i stand at numbered handle (bit_and (slice_index s.words (flags_at i)) 18446744073709551613) word in
    let w = after_canceling me.0 h i in
    let cancels : Cancels i flags me.0 w = record { makes = makes_of sizes h (Cancel i me.0.first flags) me.0 w (stand.seats.parts.each id me.0 at) (stand.seats.tables id me.0 at) numbered refl refl now.legal; rest = refl } in
    let told : Canceled i (slice_index s.words (flags_at i)) me.0 w = record { flags = flags; found_is = found; cancels = cancels } in
    (w, keeps, tt, (Cancel i me.0.first flags ∷ h, now, slots_kept number sizes h (Cancel i me.0.first flags ∷ h) s.homes s.views id me.0 w kept.2 at refl (λ m low. (same_lot (sizes.handles + m) (Cancel i me.0.first flags) h refl refl refl refl, same_hand (sizes.handles + m) me.0.stage w.stage refl refl))), (refl, λ j same. let is_i : i ≡ j = omega arith in subst (λ k. Canceled k (slice_index s.words (flags_at i)) me.0 w) is_i told))
