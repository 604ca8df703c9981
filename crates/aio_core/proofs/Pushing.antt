-- The compare of the head keeps the rule, whether it pushes the index or finds another head.
use Rattle.std.proofs.Common.{Option, ◌≡◌, ℕ, ◌+◌, ◌<◌, Bool, true, false, eqb, MatchBool, List, ◌∷◌, set, slice_index, inl, inr, refl, sym, ap, ◌∙◌, subst, arith}
use Rattle.std.proofs.lemmas.Bool.{eqb-true, ne_eqb}
use mathlib.Core.Option.{some, none}
use lib.ListN.{get_elem?, length-set}
use prog.Atomic.{either}
use Rattle.atomic_table.specs.Table.{State, Me, Act, keeps, step, Valid, carried_after, stepped, Allows}
use Rattle.aio_model.specs.Loop.History.{Sizes, Put, History}
use Rattle.aio_model.specs.Loop.Lists.{stack_of, out_of}
use Rattle.aio_model.specs.Loop.InFlight.{ForIndex, Announced, Linked, ToStore, flight_of}
use Rattle.aio_chain.specs.Chains.{IsChain}
use Rattle.aio_chain.proofs.Chains.{chain_kept, pushed}
use Rattle.aio_core.specs.Words.{head_at, notified_at, notify_me_at, notifier_at, next_at, next_in}
use Rattle.aio_core.specs.Known.{HeadCompare, Known, numbers_of}
use Rattle.aio_core.specs.Rule.{IsOwed, Owes, push_of, store_of, Stands, Kept}
use Rattle.aio_core.specs.Standing.{done, index_in, Pushes, Misses}
use Rattle.aio_core.specs.Plays.{head_compared}
use Rattle.aio_core.proofs.Slots.{same_lot, same_entry, same_hand, slots_kept}
use Rattle.table_seats.proofs.Entries.{owns_first}
use Rattle.aio_core.proofs.Seats.{seats_make, makes_of, same_view}
use Rattle.aio_core.proofs.Histories.{owed_still}
use Rattle.aio_core.proofs.Flags.{events_apart, read_here, read_else, flags_apart}
use Rattle.aio_core.proofs.Lists.{claimed_still, each_all, owes_kept, owed_apart, has_out_kept, lists_after}
use Rattle.aio_core.proofs.Keeping.{load_stands}
use Rattle.aio_core.proofs.Sleeping.{flight_by, sleep_kept}
use Rattle.aio_core.proofs.Wanting.{wanted_same, same_reason_index, announced_put, put_put}
use Rattle.aio_core.proofs.Aiming.{owed_of, loaded_in}

abbrev pub after_push : Known → History → ℕ → ℕ → Known
after_push v h i found =
    let entry = Put i v.first in
    record v { seen = entry ∷ h; mine = entry ∷ v.mine; did = done HeadCompare head_at found ∷ v.did; phase = ToStore (ForIndex i) }

abbrev pub after_miss : Known → ℕ → ℕ → Known
after_miss v i found = record v { did = done HeadCompare head_at found ∷ v.did; phase = Announced i }

module _ (sizes : Sizes) (h : History) (words : List ℕ) (views : List Known) (id : ℕ) (v : Known) (i found : ℕ) where
  pub push_stands : (to : ℕ) → v.phase ≡ Linked i to → Stands sizes h words views → get_elem? views id ≡ some v → 0 < v.count → IsOwed sizes h v.first i → next_in words i ≡ slice_index words head_at → Stands sizes (Put i v.first ∷ h) (set words head_at (i + 1)) (set views id (after_push v h i found))
  push_stands to phase stand at numbered owed linked =
      let w = after_push v h i found in
      let entry = Put i v.first in
      let words' = set words head_at (i + 1) in
      let count = stand.long in
      let same_next : (j : ℕ) → next_in words' j ≡ next_in words j = λ j. read_else words head_at (next_at j) (i + 1) (λ q. omega arith) in
      let top : slice_index words' head_at ≡ i + 1 = read_here words head_at (i + 1) (omega arith) in
      let below_it = chain_kept (next_in words) (next_in words') (slice_index words head_at) (stack_of h) stand.lists.stack (each_all _ (stack_of h) same_next) in
      record {
        long = length-set words head_at (i + 1) ∙ stand.long;
        legal = ((owed.announced, owed.by_it), stand.legal);
        seats = seats_make sizes h views id entry v w stand.seats at (same_view v w refl refl refl) (owns_first (numbers_of v) numbered) refl refl numbered;
        flags = flags_apart sizes h (entry ∷ h) words head_at (i + 1) stand.flags (λ j q. omega arith) (λ j. refl);
        lists = lists_after sizes h (entry ∷ h) words words' views id w stand.lists
            (subst (λ k. IsChain (next_in words') k (i ∷ stack_of h)) (sym top) (pushed (next_in words') (slice_index words head_at) i (stack_of h) below_it (same_next i ∙ linked)))
            tt
            (λ beside u ne atu. owes_kept sizes words words' h (entry ∷ h) u.first u.phase (λ j busy theirs. (owed_still sizes h entry u.first j theirs refl (ne_eqb j i (λ q. owed_apart sizes h views id beside v u i j stand.seats at atu ne owed numbered theirs ((stand.seats.tables beside u atu).active busy) (sym q))), same_next j)) (λ j job busy c. claimed_still sizes h entry _ j job refl refl refl c))
            (has_out_kept words words' h (entry ∷ h) v refl (each_all _ (out_of h) same_next) (stand.lists.out id v at))
            (λ beside u ne atu. has_out_kept words words' h (entry ∷ h) u refl (each_all _ (out_of h) same_next));
        events = events_apart h (entry ∷ h) words head_at (i + 1) stand.events (λ e low q. omega arith) (λ e. refl);
        sleep = sleep_kept sizes h (entry ∷ h) words words' views id v w (done HeadCompare head_at found) stand.seats at refl refl refl stand.sleep
            (record {
              wanted = λ r is. inl (wanted_same r h (entry ∷ h) (λ j. refl) (λ e. refl) is);
              stores = λ r is e. sym (ap store_of phase) ∙ e;
              flies = λ r is e. sym (ap flight_of phase) ∙ e;
              notified = read_else words head_at notified_at (i + 1) (λ q. omega arith);
              notifier = read_else words head_at notifier_at (i + 1) (λ q. omega arith);
            })
            (read_else words head_at notify_me_at (i + 1) (λ q. omega arith))
            (λ j announced. let old = announced_put j i v.first h announced in inr (old.1, λ e. absurd (old.0 (sym (same_reason_index i j (sym (ap push_of phase) ∙ e))))))
            (λ no j put. (put_put j i v.first h put, same_next j));
      }

module _ {J : Type 0} (number : J → ℕ) (sizes : Sizes) (slots id i head : ℕ) (me : Me (Option J) Known) (numbered : 0 < me.0.count) (phase : me.0.phase ≡ Linked i head) (s : State (Option J) Known) (kept : Kept number sizes s) (at : get_elem? s.views id ≡ some me.0) where
  abbrev found_now : ℕ
  found_now = slice_index s.words head_at

  abbrev Goal : Bool → Type 0
  Goal b =
      (w : Known) × (a : Act (Option J)) × Valid s.homes me.1 a × Kept number sizes (stepped s head_at (either b (i + 1) found_now) id me.1 w a) × head_compared (step slots head_at head (i + 1) none) me found_now (w, carried_after me.1 a)

  owed_now : Owes sizes s.words kept.0 me.0.first (Linked i head)
  owed_now = owed_of sizes s.words kept.0 me.0.first me.0.phase (Linked i head) phase (kept.1.lists.owed id me.0 at)

  compared : (b : Bool) → eqb found_now head ≡ b → Goal b
  compared true is =
      let h = kept.0 in
      let stand = kept.1 in
      let v = me.0 in
      let w = after_push v h i found_now in
      let linked : next_in s.words i ≡ found_now = owed_now.1 ∙ sym (eqb-true found_now head is) in
      let now = push_stands sizes h s.words s.views id v i found_now head phase stand at numbered owed_now.0 linked in
      let told : Pushes i found_now v w = record { makes = makes_of sizes h (Put i v.first) v w (stand.seats.parts.each id v at) (stand.seats.tables id v at) numbered refl refl now.legal; rest = refl } in
      (w, keeps, tt, (Put i v.first ∷ h, now, slots_kept number sizes h (Put i v.first ∷ h) s.homes s.views id me.0 w kept.2 at refl (λ m low. (same_lot (sizes.handles + m) (Put i v.first) h refl refl refl refl, same_hand (sizes.handles + m) me.0.stage w.stage refl refl))), (refl, λ j to eq. let index : i ≡ j = ap index_in (sym phase ∙ eq) in let loaded : head ≡ to = ap loaded_in (sym phase ∙ eq) in subst (λ k. MatchBool (eqb found_now k) (Pushes j found_now v w) (Misses j found_now v w)) loaded (subst (λ c. MatchBool c (Pushes j found_now v w) (Misses j found_now v w)) (sym is) (subst (λ k. Pushes k found_now v w) index told))))
  compared false is =
      let h = kept.0 in
      let stand = kept.1 in
      let v = me.0 in
      let w = after_miss v i found_now in
      let now = load_stands sizes h s.words s.views id head_at v w stand at numbered (same_view v w refl refl refl) refl refl owed_now.0 (stand.lists.out id v at) (record { step = done HeadCompare head_at found_now; longer = refl; sleep_is = refl; flight = flight_by v.phase (Linked i head) (Announced i) phase (record { pushes = refl; stores = refl; flies = refl }) }) in
      let told : Misses i found_now v w = record { rest = refl } in
      (w, keeps, tt, (h, now, slots_kept number sizes h h s.homes s.views id me.0 w kept.2 at refl (λ m low. (same_entry h (sizes.handles + m), same_hand (sizes.handles + m) me.0.stage w.stage refl refl))), (refl, λ j to eq. let index : i ≡ j = ap index_in (sym phase ∙ eq) in let loaded : head ≡ to = ap loaded_in (sym phase ∙ eq) in subst (λ k. MatchBool (eqb found_now k) (Pushes j found_now v w) (Misses j found_now v w)) loaded (subst (λ c. MatchBool c (Pushes j found_now v w) (Misses j found_now v w)) (sym is) (subst (λ k. Misses k found_now v w) index told))))

pub head_compare_allowed : {J : Type 0} (number : J → ℕ) (sizes : Sizes) (slots id i head : ℕ) (me : Me (Option J) Known) → 0 < me.0.count → me.0.phase ≡ Linked i head → Allows (Kept number sizes) slots id me head_at (λ n. either (eqb n head) (i + 1) n) (head_compared (step slots head_at head (i + 1) none) me)
head_compare_allowed number sizes slots id i head me numbered phase s kept long at fits =
    compared number sizes slots id i head me numbered phase s kept at (eqb (slice_index s.words head_at) head) refl

-- either way the seat is of its table and has its numbers
pub compared_keeps : (i found head : ℕ) (v w : Known) → MatchBool (eqb found head) (Pushes i found v w) (Misses i found v w) → (w.sizes ≡ v.sizes) × (w.first ≡ v.first) × (w.count ≡ v.count)
compared_keeps i found head v w = by (eqb found head)
  where
    by : (b : Bool) → MatchBool b (Pushes i found v w) (Misses i found v w) → (w.sizes ≡ v.sizes) × (w.first ≡ v.first) × (w.count ≡ v.count)
    by true h = (ap (λ (k : Known). k.sizes) h.rest, ap (λ (k : Known). k.first) h.rest, ap (λ (k : Known). k.count) h.rest)
    by false h = (ap (λ (k : Known). k.sizes) h.rest, ap (λ (k : Known). k.first) h.rest, ap (λ (k : Known). k.count) h.rest)
