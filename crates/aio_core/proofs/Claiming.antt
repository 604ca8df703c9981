-- The claim of a lot keeps the rule: its life begins for the job that the step announces, and its slot is taken.
use Rattle.std.proofs.Common.{◌≡◌, ◌≢◌, ℕ, ◌+◌, ◌<◌, Bool, true, false, not, cond, ◌||◌, eqb, ltb, Option, Some, None, List, ◌∷◌, set, slice_index, inl, inr, refl, sym, ap, ◌∙◌, subst, ⊎_elim, arith}
use Rattle.std.proofs.lemmas.Bool.{and_parts, and_from, cases_eq, ne_eqb, eqb-true, eq-eqb, lt-ltb, le-ltb, not_from_false}
use mathlib.Core.Option.{some, none}
use lib.ListN.{get_elem?, length-set}
use prog.Atomic.{either}
use Rattle.atomic_table.specs.Table.{State, Me, Act, keeps, takes, step, Allows, Valid, stepped, carried_after}
use Rattle.atomic_table.proofs.Lists.{set_else}
use Rattle.aio_model.specs.Loop.FlagsWord.{word_of}
use Rattle.aio_model.specs.Loop.History.{Sizes, New, History}
use Rattle.aio_model.specs.Loop.Flags.{has_life, lives, is_lot, is_pending, flags_of, are_urgent, is_urgent, ends_round}
use Rattle.aio_model.specs.Loop.Lists.{was_put, is_announced, claimer_of, stack_of, out_of}
use Rattle.aio_model.specs.Loop.InFlight.{Reason, ForIndex, ForEvent, ForNothing, AtRest, LotClaimed, flight_of}
use Rattle.aio_model.proofs.AnnouncedOnce.{fits}
use Rattle.aio_model.proofs.LotLives.{pending_lot_lives}
use Rattle.aio_chain.specs.Chains.{IsChain}
use Rattle.aio_chain.proofs.Chains.{chain_kept}
use Rattle.aio_core.specs.Words.{head_at, notified_at, notify_me_at, notifier_at, flags_at, index_count, flags_word, free_word, next_in}
use Rattle.aio_core.specs.Known.{LotClaimCompare, Known, numbers_of}
use Rattle.aio_core.specs.Rule.{push_of, store_of, is_wanted, Stands, Kept}
use Rattle.aio_core.specs.Standing.{done, Claims, Looks}
use Rattle.aio_core.specs.Plays.{lot_claimed}
use Rattle.table_seats.proofs.Entries.{owns_first}
use Rattle.aio_core.proofs.Seats.{seats_make, makes_of, same_view}
use Rattle.aio_core.proofs.Histories.{owed_still}
use Rattle.aio_core.proofs.Flags.{events_apart, read_else, flags_change, word_same}
use Rattle.aio_core.proofs.Lists.{each_all, owes_kept, claimed_still, has_out_kept, lists_after}
use Rattle.aio_core.proofs.Masks.{word_of-below}
use Rattle.aio_core.proofs.Sleeping.{something, no_reason, sleep_kept}
use Rattle.aio_core.proofs.Enqueuing.{next_beside_flags, head_beside_flags}
use Rattle.aio_core.proofs.Slots.{same_lot, same_stage, slots_change, slots_kept}
use Rattle.aio_core.proofs.Settling.{after_look, look_stands}
use Rattle.aio_core.proofs.Lives.{lot_below, no_word, flags_of-new, flags_of-new_other, lives-new, life-new, life-new_other, claimed_lives}

abbrev pub after_claim : Known → History → ℕ → ℕ → ℕ → Known
after_claim v h i job found =
    let entry = New i v.first job in
    record v { seen = entry ∷ h; mine = entry ∷ v.mine; did = done LotClaimCompare (flags_at i) found ∷ v.did; phase = LotClaimed i job }

module _ (sizes : Sizes) (h : History) (words : List ℕ) (views : List Known) (id : ℕ) (v : Known) (i job found : ℕ) (stand : Stands sizes h words views) (at : get_elem? views id ≡ some v) (lot : is_lot sizes i ≡ true) (dead : lives i h ≡ false) where
  dead_not_pending : is_pending i h ≡ true → ⊥
  dead_not_pending pending =
      let alive = pending_lot_lives sizes i h stand.legal lot pending in
      let both : true ≡ false = sym alive ∙ dead in
      cc

  other_pending : (j : ℕ) → is_pending j h ≡ true → j ≢ i
  other_pending j pending e = dead_not_pending (subst (λ k. is_pending k h ≡ true) e pending)

  other_claimed : (j s : ℕ) → claimer_of j h ≡ Some s → eqb j i ≡ false
  other_claimed j s claimed =
      ne_eqb j i (λ e. let alive = claimed_lives j s h claimed in let both : true ≡ false = sym (subst (λ k. lives k h ≡ true) e alive) ∙ dead in cc)

  begins_other : (j : ℕ) → is_pending j h ≡ true → ends_round j (New i v.first job) ≡ false
  begins_other j pending = let e : eqb j i ≡ false = ne_eqb j i (other_pending j pending) in rw e refl

  announced_pending : (j : ℕ) → is_announced j h ≡ true → is_pending j h ≡ true
  announced_pending j a = (and_parts (is_pending j h) (not (was_put j h)) a).0

  put_still : (j : ℕ) → was_put j h ≡ true → was_put j (New i v.first job ∷ h) ≡ true
  put_still j put =
      let e : eqb j i ≡ false = ne_eqb j i (other_pending j ((fits sizes h j stand.legal).enqueued put)) in rw e put

  wanted_new : (r : Reason) → is_wanted r (New i v.first job ∷ h) ≡ true → is_wanted r h ≡ true
  wanted_new (ForIndex j) is =
      ⊎_elim (λ (e : j ≡ i). absurd (none_urgent (subst (λ k. is_urgent k (New i v.first job ∷ h) ≡ true) e is))) (λ (ne : j ≢ i). sym (ap are_urgent (flags_of-new_other j i v.first job h ne)) ∙ is) (cases_eq j i)
    where
      none_urgent : is_urgent i (New i v.first job ∷ h) ≡ true → ⊥
      none_urgent u = let no : false ≡ true = sym (ap are_urgent (flags_of-new i v.first job h)) ∙ u in cc
  wanted_new (ForEvent e) is = is
  wanted_new ForNothing is = is

  announced_new : (j : ℕ) → is_announced j (New i v.first job ∷ h) ≡ true → is_announced j h ≡ true
  announced_new j a =
      ⊎_elim (λ (e : j ≡ i). absurd (let same : eqb i i ≡ true = eq-eqb i i refl in let no : false ≡ true = rw same at (subst (λ k. is_announced k (New i v.first job ∷ h) ≡ true) e a) in cc)) (λ (ne : j ≢ i). let other : eqb j i ≡ false = ne_eqb j i ne in rw other at a) (cases_eq j i)

  pub claim_stands : 0 < v.count → v.phase ≡ AtRest → Stands sizes (New i v.first job ∷ h) (set words (flags_at i) 0) (set views id (after_claim v h i job found))
  claim_stands numbered rest =
      let entry = New i v.first job in
      let w = after_claim v h i job found in
      let k = flags_at i in
      let words' = set words k 0 in
      let below = lot_below sizes i lot in
      let same_next : (j : ℕ) → next_in words' j ≡ next_in words j = next_beside_flags words i 0 in
      let new_word : flags_word sizes i (entry ∷ h) ≡ 0 = ap (λ (b : Bool). cond b (word_of (flags_of i (entry ∷ h))) free_word) (life-new sizes i v.first job h) ∙ ap word_of (flags_of-new i v.first job h) ∙ no_word in
      let same : eqb i i ≡ true = eq-eqb i i refl in
      record {
        long = length-set words k 0 ∙ stand.long;
        legal = ((lot, dead), stand.legal);
        seats = seats_make sizes h views id entry v w stand.seats at (same_view v w refl refl refl) (owns_first (numbers_of v) numbered) refl refl numbered;
        flags = flags_change sizes h (entry ∷ h) words i 0 stand.flags stand.long below new_word (λ j ne. word_same sizes j h (entry ∷ h) (life-new_other sizes j i v.first job h ne) (flags_of-new_other j i v.first job h ne));
        lists = lists_after sizes h (entry ∷ h) words words' views id w stand.lists
            (subst (λ t. IsChain (next_in words') t (stack_of h)) (sym (head_beside_flags words i 0)) (chain_kept (next_in words) (next_in words') (slice_index words head_at) (stack_of h) stand.lists.stack (each_all _ (stack_of h) same_next)))
            (record { lot = lot; by_it = rw same refl; job_is = rw same refl })
            (λ beside u ne atu. owes_kept sizes words words' h (entry ∷ h) u.first u.phase (λ j busy owed. (owed_still sizes h entry u.first j owed (begins_other j (announced_pending j owed.announced)) refl, same_next j)) (λ j other busy c. claimed_still sizes h entry u.first j other (other_claimed j u.first c.by_it) refl refl c))
            (has_out_kept words words' h (entry ∷ h) v refl (each_all _ (out_of h) same_next) (stand.lists.out id v at))
            (λ beside u ne atu. has_out_kept words words' h (entry ∷ h) u refl (each_all _ (out_of h) same_next));
        events = events_apart h (entry ∷ h) words k 0 stand.events (λ e low q. omega arith) (λ e. refl);
        sleep = sleep_kept sizes h (entry ∷ h) words words' views id v w (done LotClaimCompare k found) stand.seats at refl refl refl stand.sleep
            (record {
              wanted = λ r is. inl (wanted_new r is);
              stores = λ r is q. absurd (something r (entry ∷ h) is (sym (ap store_of rest) ∙ q));
              flies = λ r is q. absurd (something r (entry ∷ h) is (sym (ap flight_of rest) ∙ q));
              notified = read_else words k notified_at 0 (λ q. omega arith);
              notifier = read_else words k notifier_at 0 (λ q. omega arith);
            })
            (read_else words k notify_me_at 0 (λ q. omega arith))
            (λ j announced. inr (announced_new j announced, λ q. absurd (no_reason j (sym (ap push_of rest) ∙ q))))
            (λ no j put. (put_still j put, same_next j));
      }

pub lot_at : (sizes : Sizes) (m : ℕ) → m < sizes.lots → is_lot sizes (sizes.handles + m) ≡ true
lot_at sizes m low =
    and_from _ _ (not_from_false _ (le-ltb (sizes.handles + m) sizes.handles (omega arith))) (lt-ltb (sizes.handles + m) (sizes.handles + sizes.lots) (omega arith))

-- a free word is that of a lot without a life
free_is_dead : (sizes : Sizes) (i : ℕ) (h : History) (n : ℕ) → n ≡ flags_word sizes i h → n ≡ free_word → lives i h ≡ false
free_is_dead sizes i h n is free = by (has_life sizes i h) refl
  where
    by : (b : Bool) → has_life sizes i h ≡ b → lives i h ≡ false
    by true alive = absurd (let low = word_of-below (flags_of i h) in let word : n ≡ word_of (flags_of i h) = is ∙ ap (λ (c : Bool). cond c (word_of (flags_of i h)) free_word) alive in omega arith)
    by false dead = second (ltb i sizes.handles) (lives i h) dead
      where
        second : (a b : Bool) → (a || b) ≡ false → b ≡ false
        second true b e = absurd cc
        second false b e = e

module _ {J : Type 0} (number : J → ℕ) where
  same_said : (x y : J) → some (Some x) ≡ some (Some y) → x ≡ y
  same_said x y e = cc

  -- the claim
  module _ (sizes : Sizes) (slots id m : ℕ) (x : J) (me : Me (Option J) Known) (low : m < sizes.lots) (numbered : 0 < me.0.count) (rest : me.0.phase ≡ AtRest) (s : State (Option J) Known) (kept : Kept number sizes s) (at : get_elem? s.views id ≡ some me.0) where
    abbrev claimed_index : ℕ
    claimed_index = sizes.handles + m

    abbrev word_now : ℕ
    word_now = slice_index s.words (flags_at claimed_index)

    abbrev ClaimGoal : Bool → Type 0
    ClaimGoal b =
        (w : Known) × (a : Act (Option J)) × Valid s.homes me.1 a × Kept number sizes (stepped s (flags_at claimed_index) (either b 0 word_now) id me.1 w a) × lot_claimed number (step slots (flags_at claimed_index) free_word 0 (some (Some x))) me word_now (w, carried_after me.1 a)

    claimed_by : (b : Bool) → eqb word_now free_word ≡ b → ClaimGoal b
    claimed_by true is =
        let h = kept.0 in
        let stand = kept.1 in
        let v = me.0 in
        let i = claimed_index in
        let job = number x in
        let entry = New i v.first job in
        let below : i < index_count sizes = omega arith in
        let dead = free_is_dead sizes i h word_now (stand.flags.each i below) (eqb-true word_now free_word is) in
        let w = after_claim v h i job word_now in
        let now = claim_stands sizes h s.words s.views id v i job word_now stand at (lot_at sizes m low) dead numbered rest in
        let same : eqb i i ≡ true = eq-eqb i i refl in
        let slots_now = slots_change number sizes h (entry ∷ h) s.homes (set s.homes m none) s.views id v w m kept.2 at refl
        (λ other ne small. let away : eqb (sizes.handles + other) i ≡ false = ne_eqb (sizes.handles + other) i (λ q. ne (omega arith)) in (same_lot (sizes.handles + other) entry h away refl refl refl, set_else s.homes m other none ne, same_stage (sizes.handles + other) v.stage v.stage refl))
        (λ small gone. absurd (let alive = lives-new i v.first job h in let both : true ≡ false = sym alive ∙ gone in cc))
        (λ small alive gone. absurd (let none_yet : false ≡ true = rw same at gone in cc))
        (λ far u atu own small full. absurd (let by_it : Some v.first ≡ None = rw same at full.enqueued in cc)) in
        let told : Claims i job word_now v w = record { makes = makes_of sizes h entry v w (stand.seats.parts.each id v at) (stand.seats.tables id v at) numbered refl refl now.legal; rest = refl } in
        let sizes_are : v.sizes ≡ sizes = (stand.seats.tables id v at).sizes_are numbered in (
          w,
          takes m None,
          kept.2.vacant m low dead,
          (entry ∷ h, now, slots_now),
          λ y k said word.
              let job_is : number x ≡ number y = ap number (same_said x y said) in
              let place : sizes.handles + m ≡ v.sizes.handles + k = omega arith in
              let handles : v.sizes.handles ≡ sizes.handles = ap (λ (z : Sizes). z.handles) sizes_are in
              let m_is : m ≡ k = omega arith in
              rw is (subst (λ n. Claims n (number y) word_now v w) place (subst (λ n. Claims i n word_now v w) job_is told), ap (λ n. (n, None) ∷ me.1) m_is),
        )
    claimed_by false is =
        let h = kept.0 in
        let stand = kept.1 in
        let v = me.0 in
        let k = flags_at claimed_index in
        let w = after_look v LotClaimCompare k word_now in
        let told : Looks LotClaimCompare k word_now v w = record { rest = refl } in
        (w, keeps, tt, (h, look_stands sizes h s.words s.views id v LotClaimCompare k stand at numbered, slots_kept number sizes h h s.homes s.views id v w kept.2 at refl (λ other small. (record { lives_same = refl; dequeued_same = refl; claimer_same = refl; job_same = refl }, same_stage (sizes.handles + other) v.stage v.stage refl))), λ y n said word. rw is (told, refl))

  pub claim_allowed : (sizes : Sizes) (slots id m : ℕ) (x : J) (me : Me (Option J) Known) → m < sizes.lots → 0 < me.0.count → me.0.phase ≡ AtRest → Allows (Kept number sizes) slots id me (flags_at (sizes.handles + m)) (λ n. either (eqb n free_word) 0 n) (lot_claimed number (step slots (flags_at (sizes.handles + m)) free_word 0 (some (Some x))) me)
  claim_allowed sizes slots id m x me low numbered rest s kept long at fits_word =
      claimed_by sizes slots id m x me low numbered rest s kept at (eqb (slice_index s.words (flags_at (sizes.handles + m))) free_word) refl
