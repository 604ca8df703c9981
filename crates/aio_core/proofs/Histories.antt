-- What a legal history tells of the lists of one index.
use Rattle.std.proofs.Common.{◌≡◌, ◌≢◌, ℕ, ◌+◌, ◌<◌, ◌≤◌, Bool, true, false, not, cond, ◌&&◌, ◌||◌, eqb, ltb, Option, Some, None, List, [], ◌∷◌, refl, sym, ap, subst, ⊎_elim, arith}
use Rattle.std.proofs.lemmas.Bool.{and_parts, or_cases, ltb-true, eqb-true, eq-eqb, false_from_ne_true}
use Rattle.aio_model.specs.Loop.FlagsWord.{bit}
use Rattle.aio_model.specs.Loop.History.{Sizes, Entry, New, Enqueue, Put, Cancel, Take, Dequeue, Free, SetEvent, ClearEvent, History}
use Rattle.aio_model.specs.Loop.Flags.{has_life, lives, is_lot, is_pending, enqueues, puts, ends_round}
use Rattle.aio_model.specs.Loop.Lists.{seat_of, was_put, is_announced, announcer_of, or_else, stack_of, out_of}
use Rattle.aio_model.specs.Loop.Legal.{IsLegal}
use Rattle.aio_model.specs.Loop.Laws.{times_of}
use Rattle.aio_model.proofs.AnnouncedOnce.{fits}
use Rattle.aio_chain.proofs.Chains.{Each}
use Rattle.aio_core.specs.Words.{index_count}
use Rattle.aio_core.specs.Rule.{IsOwed}

-- Lives and bounds.

kept_life : (b l : Bool) → cond b false l ≡ true → l ≡ true
kept_life true l h = absurd cc
kept_life false l h = h

pub lives_is_lot : (sizes : Sizes) (H : History) (i : ℕ) → IsLegal sizes H → lives i H ≡ true → is_lot sizes i ≡ true
lives_is_lot sizes [] i legal h = absurd cc
lives_is_lot sizes (New j s job ∷ P) i legal h =
    ⊎_elim (λ e. subst (λ k. is_lot sizes k ≡ true) (sym (eqb-true i j e)) legal.0.0) (lives_is_lot sizes P i legal.1) (or_cases (eqb i j) (lives i P) h)
lives_is_lot sizes (Enqueue j a s was ∷ P) i legal h = lives_is_lot sizes P i legal.1 h
lives_is_lot sizes (Put j s ∷ P) i legal h = lives_is_lot sizes P i legal.1 h
lives_is_lot sizes (Cancel j s was ∷ P) i legal h = lives_is_lot sizes P i legal.1 h
lives_is_lot sizes (Take ∷ P) i legal h = lives_is_lot sizes P i legal.1 h
lives_is_lot sizes (Dequeue j ran ∷ P) i legal h = lives_is_lot sizes P i legal.1 h
lives_is_lot sizes (Free j ∷ P) i legal h = lives_is_lot sizes P i legal.1 (kept_life (eqb i j) (lives i P) h)
lives_is_lot sizes (SetEvent e s ∷ P) i legal h = lives_is_lot sizes P i legal.1 h
lives_is_lot sizes (ClearEvent e was ∷ P) i legal h = lives_is_lot sizes P i legal.1 h

pub life_below : (sizes : Sizes) (H : History) (i : ℕ) → IsLegal sizes H → has_life sizes i H ≡ true → i < index_count sizes
life_below sizes H i legal h =
    ⊎_elim (λ handle. let low = ltb-true i sizes.handles handle in omega arith) (λ alive. ltb-true i (sizes.handles + sizes.lots) (and_parts _ _ (lives_is_lot sizes H i legal alive)).1) (or_cases (ltb i sizes.handles) (lives i H) h)

pub pending_below : (sizes : Sizes) (H : History) (i : ℕ) → IsLegal sizes H → is_pending i H ≡ true → i < index_count sizes
pending_below sizes H i legal h = life_below sizes H i legal ((fits sizes H i legal).alive h)

-- Members of the stack and of out.

-- a fact of each member, from how often it stands there
pub each_by_times : (P : ℕ → Type 0) (xs : List ℕ) → ((i : ℕ) → 1 ≤ times_of i xs → P i) → Each P xs
each_by_times P [] h = tt
each_by_times P (x ∷ xs) h =
    let here : eqb x x ≡ true = eq-eqb x x refl in
    let once : 1 ≤ times_of x (x ∷ xs) = rw here (omega arith) in
    (h x once, each_by_times P xs (λ i more. h i (omega (arith, more))))

pending_of : (a p : Bool) (s o : ℕ) → bit a + s + o ≡ bit p → 1 ≤ s + o → p ≡ true
pending_of a true s o h k = refl
pending_of a false s o h k = absurd (omega arith)

pub on_stack_is_pending : (sizes : Sizes) (H : History) (i : ℕ) → IsLegal sizes H → 1 ≤ times_of i (stack_of H) → is_pending i H ≡ true
on_stack_is_pending sizes H i legal h =
    pending_of (is_announced i H) (is_pending i H) (times_of i (stack_of H)) (times_of i (out_of H)) (fits sizes H i legal).once (omega (arith, h))

pub out_is_pending : (sizes : Sizes) (H : History) (i : ℕ) → IsLegal sizes H → 1 ≤ times_of i (out_of H) → is_pending i H ≡ true
out_is_pending sizes H i legal h =
    pending_of (is_announced i H) (is_pending i H) (times_of i (stack_of H)) (times_of i (out_of H)) (fits sizes H i legal).once (omega (arith, h))

pub stack_below : (sizes : Sizes) (H : History) → IsLegal sizes H → Each (λ i. i < index_count sizes) (stack_of H)
stack_below sizes H legal =
    each_by_times (λ i. i < index_count sizes) (stack_of H) (λ i h. pending_below sizes H i legal (on_stack_is_pending sizes H i legal h))

pub out_below : (sizes : Sizes) (H : History) → IsLegal sizes H → Each (λ i. i < index_count sizes) (out_of H)
out_below sizes H legal =
    each_by_times (λ i. i < index_count sizes) (out_of H) (λ i h. pending_below sizes H i legal (out_is_pending sizes H i legal h))

alone : (a p : Bool) (s o : ℕ) → a ≡ true → bit a + s + o ≡ bit p → (s ≡ 0) × (o ≡ 0)
alone true true s o h k = (omega arith, omega arith)
alone true false s o h k = absurd (omega arith)
alone false p s o h k = absurd cc

-- an index that doesn't stand there is no member
pub each_other : (i : ℕ) (xs : List ℕ) → times_of i xs ≡ 0 → Each (λ j. i ≢ j) xs
each_other i xs none =
    each_by_times (λ j. i ≢ j) xs (λ j there same. let here : 1 ≤ times_of i xs = subst (λ k. 1 ≤ times_of k xs) (sym same) there in omega arith)

-- what is announced is neither in the stack nor out
pub announced_alone : (sizes : Sizes) (H : History) (i : ℕ) → IsLegal sizes H → is_announced i H ≡ true → Each (λ j. i ≢ j) (stack_of H) × Each (λ j. i ≢ j) (out_of H)
announced_alone sizes H i legal h =
    let none = alone (is_announced i H) (is_pending i H) (times_of i (stack_of H)) (times_of i (out_of H)) h (fits sizes H i legal).once in
    (each_other i (stack_of H) none.0, each_other i (out_of H) none.1)

-- Announcers.

no_announcer_yet : (ends en p : Bool) (a : Option ℕ) (s : ℕ) → (p ≡ false → a ≡ None) → cond ends false (en || p) ≡ false → cond ends None (or_else a (cond en (Some s) None)) ≡ None
no_announcer_yet true en p a s k h = refl
no_announcer_yet false true p a s k h = absurd cc
no_announcer_yet false false p a s k h = ap (λ (o : Option ℕ). or_else o None) (k h)

-- what isn't pending has no announcer
pub idle_has_none : (i : ℕ) (H : History) → is_pending i H ≡ false → announcer_of i H ≡ None
idle_has_none i [] h = refl
idle_has_none i (e ∷ P) h =
    no_announcer_yet (ends_round i e) (enqueues i e) (is_pending i P) (announcer_of i P) (seat_of e) (idle_has_none i P) h

-- nor was it pushed
pub idle_was_not_put : (sizes : Sizes) (H : History) (i : ℕ) → IsLegal sizes H → is_pending i H ≡ false → was_put i H ≡ false
idle_was_not_put sizes H i legal h =
    false_from_ne_true (was_put i H) (λ put. let pending = (fits sizes H i legal).enqueued put in cc)

still_announced : (ends put en p w : Bool) → ends ≡ false → put ≡ false → (p && not w) ≡ true → (cond ends false (en || p) && not (cond ends false (put || w))) ≡ true
still_announced true put en p w a b h = absurd cc
still_announced false true en p w a b h = absurd cc
still_announced false false true true w a b h = h
still_announced false false true false w a b h = absurd cc
still_announced false false false p w a b h = h

still_its : (ends en : Bool) (a : Option ℕ) (s n : ℕ) → ends ≡ false → a ≡ Some n → cond ends None (or_else a (cond en (Some s) None)) ≡ Some n
still_its true en a s n h k = absurd cc
still_its false en a s n h k = ap (λ (o : Option ℕ). or_else o (cond en (Some s) None)) k

-- an index stays owed until it is pushed or dequeued
pub owed_still : (sizes : Sizes) (P : History) (e : Entry) (number i : ℕ) → IsOwed sizes P number i → ends_round i e ≡ false → puts i e ≡ false → IsOwed sizes (e ∷ P) number i
owed_still sizes P e number i owed goes_on unput =
    record {
      below = owed.below;
      announced = still_announced (ends_round i e) (puts i e) (enqueues i e) (is_pending i P) (was_put i P) goes_on unput owed.announced;
      by_it = still_its (ends_round i e) (enqueues i e) (announcer_of i P) (seat_of e) number goes_on owed.by_it;
    }
