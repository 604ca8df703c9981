-- Which indices are urgent, and that each of them is announced, in the stack or out.
use Rattle.std.proofs.Common.{◌≡◌, ℕ, ◌+◌, ◌<◌, ◌≤◌, Bool, true, false, not, cond, ◌&&◌, ◌||◌, eqb, List, [], ◌∷◌, ◌++◌, refl, ap, arith}
use Rattle.std.proofs.lemmas.Bool.{and_parts}
use Rattle.aio_model.specs.Loop.FlagsWord.{bit}
use Rattle.aio_model.specs.Loop.History.{Sizes, History}
use Rattle.aio_model.specs.Loop.Flags.{is_pending, is_scheduled, is_urgent, enqueues, asks, is_scheduling, cancels, ends_round}
use Rattle.aio_model.specs.Loop.History.{Entry, New, Enqueue, Put, Cancel, Take, Dequeue, Free, SetEvent, ClearEvent}
use Rattle.aio_model.specs.Loop.Lists.{was_put, is_announced, stack_of, out_of}
use Rattle.aio_model.specs.Loop.Legal.{IsLegal}
use Rattle.aio_model.specs.Loop.Laws.{times_of}
use Rattle.aio_model.proofs.AnnouncedOnce.{fits}
use Rattle.aio_model.proofs.Indices.{times_of-append}
use Rattle.aio_core.specs.Words.{index_count}
use Rattle.aio_core.specs.Rule.{is_among}
use Rattle.aio_core.proofs.Histories.{pending_below}

asked_is_enqueue : (i : ℕ) (e : Entry) → asks is_scheduling i e ≡ true → enqueues i e ≡ true
asked_is_enqueue i (New j s job) h = absurd cc
asked_is_enqueue i (Enqueue j asked s was) h = (and_parts (eqb i j) (is_scheduling asked) h).0
asked_is_enqueue i (Put j s) h = absurd cc
asked_is_enqueue i (Cancel j s was) h = absurd cc
asked_is_enqueue i Take h = absurd cc
asked_is_enqueue i (Dequeue j ran) h = absurd cc
asked_is_enqueue i (Free j) h = absurd cc
asked_is_enqueue i (SetEvent e s) h = absurd cc
asked_is_enqueue i (ClearEvent e was) h = absurd cc

pending_more : (ends canceled asked enqueued scheduled pending : Bool) → (asked ≡ true → enqueued ≡ true) → (scheduled ≡ true → pending ≡ true) → cond (ends || canceled) false (asked || scheduled) ≡ true → cond ends false (enqueued || pending) ≡ true
pending_more true canceled asked enqueued scheduled pending k l h = absurd cc
pending_more false true asked enqueued scheduled pending k l h = absurd cc
pending_more false false true enqueued scheduled pending k l h = ap (λ (b : Bool). b || pending) (k refl)
pending_more false false false true scheduled pending k l h = refl
pending_more false false false false scheduled pending k l h = l h

pub scheduled_is_pending : (i : ℕ) (h : History) → is_scheduled i h ≡ true → is_pending i h ≡ true
scheduled_is_pending i [] is = absurd cc
scheduled_is_pending i (e ∷ h) is =
    pending_more (ends_round i e) (cancels i e) (asks is_scheduling i e) (enqueues i e) (is_scheduled i h) (is_pending i h) (asked_is_enqueue i e) (scheduled_is_pending i h) is

pub urgent_is_pending : (i : ℕ) (h : History) → is_urgent i h ≡ true → is_pending i h ≡ true
urgent_is_pending i h is =
    scheduled_is_pending i h (and_parts _ _ (and_parts _ _ is).0).0

-- Members, by how often they stand there.

among_times : (i : ℕ) (xs : List ℕ) → is_among i xs ≡ true → 1 ≤ times_of i xs
among_times i [] e = absurd cc
among_times i (x ∷ xs) e = by (eqb i x) (among_times i xs) e
  where
    by : (b : Bool) → (is_among i xs ≡ true → 1 ≤ times_of i xs) → (b || is_among i xs) ≡ true → 1 ≤ bit b + times_of i xs
    by true k h = omega arith
    by false k h = let more = k h in omega arith

none_times : (i : ℕ) (xs : List ℕ) → is_among i xs ≡ false → times_of i xs ≡ 0
none_times i [] e = refl
none_times i (x ∷ xs) e = by (eqb i x) (none_times i xs) e
  where
    by : (b : Bool) → (is_among i xs ≡ false → times_of i xs ≡ 0) → (b || is_among i xs) ≡ false → bit b + times_of i xs ≡ 0
    by true k h = absurd cc
    by false k h = let none_left = k h in omega arith

-- what is pending and neither in the stack nor out is announced, and what is there was pushed
is_announced_by : (a p : Bool) (s o : ℕ) → bit a + s + o ≡ bit p → p ≡ true → s + o ≡ 0 → a ≡ true
is_announced_by true p s o once pending unlisted = refl
is_announced_by false true s o once pending unlisted = absurd (omega arith)
is_announced_by false false s o once pending unlisted = absurd cc

was_put_by : (p w : Bool) (s o : ℕ) → bit (p && not w) + s + o ≡ bit p → 1 ≤ s + o → w ≡ true
was_put_by p true s o once there = refl
was_put_by true false s o once there = absurd (omega arith)
was_put_by false false s o once there = absurd (omega arith)

module _ (sizes : Sizes) (h : History) (legal : IsLegal sizes h) where
  pub unlisted_is_announced : (i : ℕ) → is_pending i h ≡ true → is_among i (stack_of h ++ out_of h) ≡ false → is_announced i h ≡ true
  unlisted_is_announced i pending unlisted =
      is_announced_by (is_announced i h) (is_pending i h) (times_of i (stack_of h)) (times_of i (out_of h)) (fits sizes h i legal).once pending (omega (arith, times_of-append i (stack_of h) (out_of h), none_times i (stack_of h ++ out_of h) unlisted))

  pub listed_was_put : (i : ℕ) → is_among i (stack_of h ++ out_of h) ≡ true → was_put i h ≡ true
  listed_was_put i there =
      was_put_by (is_pending i h) (was_put i h) (times_of i (stack_of h)) (times_of i (out_of h)) (fits sizes h i legal).once (omega (arith, times_of-append i (stack_of h) (out_of h), among_times i (stack_of h ++ out_of h) there))

  pub put_is_below : (i : ℕ) → was_put i h ≡ true → i < index_count sizes
  put_is_below i put = pending_below sizes h i legal ((fits sizes h i legal).enqueued put)
