-- The end of a life keeps the rule.
use Rattle.std.proofs.Common.{◌≡◌, ◌≢◌, ℕ, ◌+◌, ◌-◌, ◌<◌, Bool, true, false, not, cond, eqb, Option, Some, List, [], ◌∷◌, ◌++◌, set, slice_index, inl, inr, refl, sym, ap, ◌∙◌, subst, ⊎_elim, arith}
use Rattle.std.proofs.lemmas.Bool.{and_parts, cases_eq, ne_eqb, eq-eqb, ltb-true, ltb-false, not-true}
use mathlib.Core.Option.{some, none}
use lib.ListN.{get_elem?, length-set}
use Rattle.atomic_table.specs.Table.{Me, keeps, step, Allows}
use Rattle.aio_model.specs.Loop.FlagsWord.{word_of}
use Rattle.aio_model.specs.Loop.History.{Sizes, Entry, New, Enqueue, Put, Cancel, Take, Dequeue, Free, SetEvent, ClearEvent, History}
use Rattle.aio_model.specs.Loop.Flags.{lives, is_lot, was_dequeued, is_pending, flags_of, are_urgent, is_urgent, frees, ends_round}
use Rattle.aio_model.specs.Loop.Lists.{seat_of, was_put, is_announced, claimer_of, stack_of, out_of}
use Rattle.aio_model.specs.Loop.Legal.{IsLegal, MayFollow}
use Rattle.aio_model.specs.Loop.Seats.{Numbers, owns, own_entries, home}
use Rattle.aio_model.specs.Loop.InFlight.{Reason, ForIndex, ForEvent, ForNothing}
use Rattle.aio_model.proofs.AnnouncedOnce.{fits}
use Rattle.aio_model.proofs.LotLives.{may_free-after}
use Rattle.aio_chain.specs.Chains.{IsChain}
use Rattle.aio_chain.proofs.Chains.{chain_kept}
use Rattle.aio_core.specs.Words.{head_at, notified_at, notify_me_at, notifier_at, flags_at, flags_word, free_word, next_in}
use Rattle.aio_core.specs.Known.{LotFreeStore, Known, numbers_of}
use Rattle.aio_core.specs.Rule.{is_wanted, Stands, Kept}
use Rattle.aio_core.specs.Standing.{done, Frees}
use Rattle.aio_core.specs.Plays.{lot_freed}
use Rattle.aio_core.proofs.Seats.{seats_make, makes_of, same_view}
use Rattle.aio_core.proofs.Histories.{owed_still}
use Rattle.aio_core.proofs.Flags.{events_apart, read_else, flags_change, word_same}
use Rattle.aio_core.proofs.Lists.{each_all, owes_kept, claimed_still, has_out_kept, lists_after}
use Rattle.aio_core.proofs.Sleeping.{sleep_kept}
use Rattle.aio_core.proofs.Enqueuing.{next_beside_flags, head_beside_flags}
use Rattle.aio_core.proofs.Slots.{same_lot, same_stage, slots_change}
use Rattle.aio_core.proofs.Lives.{lot_below, flags_of-free, flags_of-free_other, lives-free, life-free, life-free_other}

-- what home has seen of a lot that may be freed is so still
may_free-beside : (sizes : Sizes) (n : Numbers) (rest seen : History) (i : ℕ) → owns n home ≡ true → IsLegal sizes (rest ++ seen) → own_entries n rest ≡ [] → MayFollow sizes (Free i) seen → MayFollow sizes (Free i) (rest ++ seen)
may_free-beside sizes n [] seen i is_home legal none_own may = may
may_free-beside sizes n (e ∷ rest) seen i is_home legal none_own may =
    let split = not_own (owns n (seat_of e)) e (own_entries n rest) none_own in
    may_free-after sizes i e (rest ++ seen) legal.0 (no_free e split.0) (may_free-beside sizes n rest seen i is_home legal.1 split.1 may)
  where
    not_own : (b : Bool) (e : Entry) (l : History) → cond b (e ∷ l) l ≡ [] → (b ≡ false) × (l ≡ [])
    not_own true e l q = absurd cc
    not_own false e l q = (refl, q)

    no_free : (e : Entry) → owns n (seat_of e) ≡ false → frees i e ≡ false
    no_free (New j s job) other = refl
    no_free (Enqueue j asked s was) other = refl
    no_free (Put j s) other = refl
    no_free (Cancel j s was) other = refl
    no_free Take other = refl
    no_free (Dequeue j ran) other = refl
    no_free (Free j) other = absurd (let both : true ≡ false = sym is_home ∙ other in cc)
    no_free (SetEvent f s) other = refl
    no_free (ClearEvent f was) other = refl

abbrev pub after_free : Known → History → ℕ → Known
after_free v h i =
    record v { seen = Free i ∷ h; mine = Free i ∷ v.mine; did = done LotFreeStore (flags_at i) free_word ∷ v.did }

module _ (sizes : Sizes) (h : History) (words : List ℕ) (views : List Known) (id : ℕ) (v : Known) (i : ℕ) (stand : Stands sizes h words views) (at : get_elem? views id ≡ some v) (lot : is_lot sizes i ≡ true) (alive : lives i h ≡ true) (gone : was_dequeued i h ≡ true) where
  free_idle : is_pending i h ≡ true → ⊥
  free_idle pending =
      let idle = (fits sizes h i stand.legal).done lot gone in
      let both : true ≡ false = sym pending ∙ idle in
      cc

  free_claimed : (j s : ℕ) → claimer_of j h ≡ Some s → eqb j i ≡ false
  free_claimed j s claimed =
      ne_eqb j i (λ e. let fresh = ((fits sizes h j stand.legal).fresh s claimed).1 in let both : true ≡ false = sym gone ∙ subst (λ k. was_dequeued k h ≡ false) e fresh in cc)

  free_round : (j : ℕ) → is_pending j h ≡ true → ends_round j (Free i) ≡ false
  free_round j pending =
      let e : eqb j i ≡ false = ne_eqb j i (λ q. free_idle (subst (λ k. is_pending k h ≡ true) q pending)) in rw e refl

  wanted_free : (r : Reason) → is_wanted r (Free i ∷ h) ≡ true → is_wanted r h ≡ true
  wanted_free (ForIndex j) is =
      ⊎_elim (λ (e : j ≡ i). absurd (none_urgent (subst (λ k. is_urgent k (Free i ∷ h) ≡ true) e is))) (λ (ne : j ≢ i). sym (ap are_urgent (flags_of-free_other j i h ne)) ∙ is) (cases_eq j i)
    where
      none_urgent : is_urgent i (Free i ∷ h) ≡ true → ⊥
      none_urgent u = let no_one : false ≡ true = sym (ap are_urgent (flags_of-free i h)) ∙ u in cc
  wanted_free (ForEvent e) is = is
  wanted_free ForNothing is = is

  announced_free : (j : ℕ) → is_announced j (Free i ∷ h) ≡ true → is_announced j h ≡ true
  announced_free j a =
      ⊎_elim (λ (e : j ≡ i). absurd (let same : eqb i i ≡ true = eq-eqb i i refl in let no_one : false ≡ true = rw same at (subst (λ k. is_announced k (Free i ∷ h) ≡ true) e a) in cc)) (λ (ne : j ≢ i). let other : eqb j i ≡ false = ne_eqb j i ne in rw other at a) (cases_eq j i)

  pub free_stands : 0 < v.count → owns (numbers_of v) home ≡ true → Stands sizes (Free i ∷ h) (set words (flags_at i) free_word) (set views id (after_free v h i))
  free_stands numbered is_home =
      let entry = Free i in
      let w = after_free v h i in
      let k = flags_at i in
      let words' = set words k free_word in
      let below = lot_below sizes i lot in
      let same_next : (j : ℕ) → next_in words' j ≡ next_in words j = next_beside_flags words i free_word in
      let new_word : flags_word sizes i (entry ∷ h) ≡ free_word = ap (λ (b : Bool). cond b (word_of (flags_of i (entry ∷ h))) free_word) (life-free sizes i h lot) in
      record {
        long = length-set words k free_word ∙ stand.long;
        legal = ((lot, alive, gone), stand.legal);
        seats = seats_make sizes h views id entry v w stand.seats at (same_view v w refl refl refl) is_home refl refl numbered;
        flags = flags_change sizes h (entry ∷ h) words i free_word stand.flags stand.long below new_word (λ j ne. word_same sizes j h (entry ∷ h) (life-free_other sizes j i h ne) (flags_of-free_other j i h ne));
        lists = lists_after sizes h (entry ∷ h) words words' views id w stand.lists
            (subst (λ t. IsChain (next_in words') t (stack_of h)) (sym (head_beside_flags words i free_word)) (chain_kept (next_in words) (next_in words') (slice_index words head_at) (stack_of h) stand.lists.stack (each_all _ (stack_of h) same_next)))
            (owes_kept sizes words words' h (entry ∷ h) v.first v.phase (λ j busy owed. (owed_still sizes h entry v.first j owed (free_round j (and_parts (is_pending j h) (not (was_put j h)) owed.announced).0) refl, same_next j)) (λ j other busy c. claimed_still sizes h entry v.first j other refl refl (free_claimed j v.first c.by_it) c) (stand.lists.owed id v at))
            (λ beside u ne atu. owes_kept sizes words words' h (entry ∷ h) u.first u.phase (λ j busy owed. (owed_still sizes h entry u.first j owed (free_round j (and_parts (is_pending j h) (not (was_put j h)) owed.announced).0) refl, same_next j)) (λ j other busy c. claimed_still sizes h entry u.first j other refl refl (free_claimed j u.first c.by_it) c))
            (has_out_kept words words' h (entry ∷ h) v refl (each_all _ (out_of h) same_next) (stand.lists.out id v at))
            (λ beside u ne atu. has_out_kept words words' h (entry ∷ h) u refl (each_all _ (out_of h) same_next));
        events = events_apart h (entry ∷ h) words k free_word stand.events (λ e small q. omega arith) (λ e. refl);
        sleep = sleep_kept sizes h (entry ∷ h) words words' views id v w (done LotFreeStore k free_word) stand.seats at refl refl refl stand.sleep
            (record {
              wanted = λ r is. inl (wanted_free r is);
              stores = λ r is q. q;
              flies = λ r is q. q;
              notified = read_else words k notified_at free_word (λ q. omega arith);
              notifier = read_else words k notifier_at free_word (λ q. omega arith);
            })
            (read_else words k notify_me_at free_word (λ q. omega arith))
            (λ j announced. inr (announced_free j announced, λ q. q))
            (λ other j put. absurd (let both : true ≡ false = sym is_home ∙ other in cc));
      }

module _ {J : Type 0} (number : J → ℕ) where
  lot_free_allowed : (sizes : Sizes) (slots id m : ℕ) (me : Me (Option J) Known) → m < sizes.lots → 0 < me.0.count → owns (numbers_of me.0) home ≡ true → MayFollow sizes (Free (sizes.handles + m)) me.0.seen → Allows (Kept number sizes) slots id me (flags_at (sizes.handles + m)) (λ _. free_word) (λ _. lot_freed number (step slots (flags_at (sizes.handles + m)) free_word 0 none) me free_word)
  lot_free_allowed sizes slots id m me low numbered is_home may_seen s kept long at fits_word =
      let h = kept.0 in
      let stand = kept.1 in
      let v = me.0 in
      let i = sizes.handles + m in
      let is = stand.seats.parts.each id v at in
      let may : MayFollow sizes (Free i) h = subst (MayFollow sizes (Free i)) (sym is.seen_of.longer) (may_free-beside sizes (numbers_of v) is.seen_of.rest v.seen i is_home (subst (IsLegal sizes) is.seen_of.longer stand.legal) is.seen_of.none_missed may_seen) in
      let entry = Free i in
      let w = after_free v h i in
      let now = free_stands sizes h s.words s.views id v i stand at may.0 may.1 may.2 numbered is_home in
      let home_slot = kept.2.emptied m low may.1 may.2 in
      let same : eqb i i ≡ true = eq-eqb i i refl in
      let slots_now = slots_change number sizes h (entry ∷ h) s.homes s.homes s.views id v w m kept.2 at refl
      (λ other ne small. let away : eqb (sizes.handles + other) i ≡ false = ne_eqb (sizes.handles + other) i (λ q. ne (omega arith)) in (same_lot (sizes.handles + other) entry h refl away refl refl, refl, same_stage (sizes.handles + other) v.stage v.stage refl))
      (λ small dead. home_slot)
      (λ small life gone. absurd (let both : false ≡ true = sym (lives-free i h) ∙ life in cc))
      (λ far u atu own small full. absurd (let both : false ≡ true = sym (lives-free i h) ∙ full.alive in cc)) in
      let told : Frees i v w = record { makes = makes_of sizes h entry v w is (stand.seats.tables id v at) numbered refl refl now.legal; rest = refl } in
      (w, keeps, tt, (entry ∷ h, now, slots_now), (refl, λ j q. let is_i : i ≡ j = omega arith in subst (λ k. Frees k v w) is_i told))

-- the place of a lot among the lots
place_of_lot : (sizes : Sizes) (i : ℕ) → is_lot sizes i ≡ true → (m : ℕ) × (m < sizes.lots) × (sizes.handles + m ≡ i)
place_of_lot sizes i lot =
    let parts = and_parts _ _ lot in
    let above = ltb-false i sizes.handles (not-true _ parts.0) in
    let below = ltb-true i (sizes.handles + sizes.lots) parts.1 in
    (i - sizes.handles, omega arith, omega arith)

-- of a lot of which home has seen that its life may end
pub free_allowed : {J : Type 0} (number : J → ℕ) (sizes : Sizes) (slots id i : ℕ) (me : Me (Option J) Known) → 0 < me.0.count → owns (numbers_of me.0) home ≡ true → MayFollow sizes (Free i) me.0.seen → Allows (Kept number sizes) slots id me (flags_at i) (λ _. free_word) (λ _. lot_freed number (step slots (flags_at i) free_word 0 none) me free_word)
free_allowed number sizes slots id i me numbered is_home may =
    let place = place_of_lot sizes i may.0 in
    let seen = subst (λ k. MayFollow sizes (Free k) me.0.seen) (sym place.2) may in
    subst (λ k. Allows (Kept number sizes) slots id me (flags_at k) (λ _. free_word) (λ _. lot_freed number (step slots (flags_at k) free_word 0 none) me free_word)) place.2 (lot_free_allowed number sizes slots id place.0 me place.1 numbered is_home seen)
