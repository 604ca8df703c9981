-- In a legal history what is pending stands once among the announced, the stack and out.
use Rattle.std.proofs.Common.{◌≡◌, ℕ, ◌+◌, ◌<◌, ◌≤◌, Bool, true, false, not, ◌&&◌, ◌||◌, eqb, ltb, [], ◌∷◌, ◌++◌, length, length-append, Some, refl, arith}
use Rattle.std.proofs.lemmas.Bool.{eq-eqb, lt-ltb}
use Rattle.aio_model.specs.Loop.FlagsWord.{bit}
use Rattle.aio_model.specs.Loop.History.{Sizes, EnqueueAsks, ToCall, ToCallIdle, ToDelete, ToCallOnce, New, Enqueue, Put, Cancel, Take, Dequeue, Free, SetEvent, ClearEvent, History}
use Rattle.aio_model.specs.Loop.Flags.{has_life, lives, is_lot, was_dequeued, is_pending}
use Rattle.aio_model.specs.Loop.Lists.{was_put, is_announced, claimer_of, stack_of, taken_of, dequeue_count, out_of, head_of}
use Rattle.aio_model.specs.Loop.Legal.{MayFollow, MayAsk, IsLegal}
use Rattle.aio_model.specs.Loop.Laws.{times_of, IsAnnouncedOnce}
use Rattle.aio_model.proofs.Indices.{by_index, times_of-append, drop-head, head-below}
use Rattle.std.proofs.lemmas.List.{drop-append-le}

-- no more is dequeued than was taken
pub dequeues_within : (sizes : Sizes) (history : History) → IsLegal sizes history → dequeue_count history ≤ length (taken_of history)
dequeues_within sizes [] h = omega arith
dequeues_within sizes (New i s job ∷ P) h = dequeues_within sizes P h.1
dequeues_within sizes (Enqueue i asked s was ∷ P) h = dequeues_within sizes P h.1
dequeues_within sizes (Put i s ∷ P) h = dequeues_within sizes P h.1
dequeues_within sizes (Cancel i s was ∷ P) h = dequeues_within sizes P h.1
dequeues_within sizes (Take ∷ P) h =
    omega (arith, dequeues_within sizes P h.1, length-append (taken_of P) (stack_of P))
dequeues_within sizes (Dequeue i ran ∷ P) h = head-below (dequeue_count P) (taken_of P) i h.0.0
dequeues_within sizes (Free i ∷ P) h = dequeues_within sizes P h.1
dequeues_within sizes (SetEvent e s ∷ P) h = dequeues_within sizes P h.1
dequeues_within sizes (ClearEvent e was ∷ P) h = dequeues_within sizes P h.1

-- a take puts the stack behind what is out
pub out_of-take : (sizes : Sizes) (P : History) → IsLegal sizes P → out_of (Take ∷ P) ≡ out_of P ++ stack_of P
out_of-take sizes P h = drop-append-le (dequeue_count P) (taken_of P) (stack_of P) (dequeues_within sizes P h)

-- a dequeue takes the first off
pub out_of-dequeue : (P : History) (i : ℕ) (ran : Bool) → head_of (out_of P) ≡ Some i → out_of P ≡ i ∷ out_of (Dequeue i ran ∷ P)
out_of-dequeue P i ran h = drop-head (dequeue_count P) (taken_of P) i h

-- what a legal history tells of one index
pub record Fits (sizes : Sizes) (i : ℕ) (H : History) : Type 0 where
  pub once : bit (is_announced i H) + times_of i (stack_of H) + times_of i (out_of H) ≡ bit (is_pending i H)
  pub enqueued : was_put i H ≡ true → is_pending i H ≡ true
  pub alive : is_pending i H ≡ true → has_life sizes i H ≡ true
  pub fresh : (s : ℕ) → claimer_of i H ≡ Some s → (is_pending i H ≡ false) × (was_dequeued i H ≡ false)
  pub done : is_lot sizes i ≡ true → was_dequeued i H ≡ true → is_pending i H ≡ false

-- facts of flags as such

put_is_pending : (p w : Bool) → (p && not w) ≡ true → p ≡ true
put_is_pending true w h = refl
put_is_pending false w h = h

once-enqueue : (p w : Bool) (a b : ℕ) → bit (p && not w) + a + b ≡ bit p → (w ≡ true → p ≡ true) → bit (not w) + a + b ≡ 1
once-enqueue true true a b h k = omega arith
once-enqueue true false a b h k = omega arith
once-enqueue false true a b h k = absurd (let e : false ≡ true = k refl in cc)
once-enqueue false false a b h k = omega arith

once-put : (p w : Bool) (a b : ℕ) → bit (p && not w) + a + b ≡ bit p → (p && not w) ≡ true → bit (p && false) + (1 + a) + b ≡ bit p
once-put true true a b h k = absurd cc
once-put true false a b h k = omega arith
once-put false w a b h k = absurd cc

none-idle : (p w : Bool) (a b : ℕ) → bit (p && not w) + a + b ≡ bit p → p ≡ false → a + b ≡ 0
none-idle true w a b h k = absurd cc
none-idle false w a b h k = omega arith

out_is_pending : (p w : Bool) (a b c : ℕ) → bit (p && not w) + a + b ≡ bit p → b ≡ 1 + c → (p ≡ true) × (a + c ≡ 0)
out_is_pending true w a b c h k = (refl, omega arith)
out_is_pending false w a b c h k = absurd (omega arith)

dead-idle : (h l q p : Bool) → (not h && q) ≡ true → l ≡ false → (p ≡ true → (h || l) ≡ true) → p ≡ false
dead-idle true l q p lot dead k = absurd cc
dead-idle false true q p lot dead k = absurd cc
dead-idle false false q true lot dead k = absurd (let e : false ≡ true = k refl in cc)
dead-idle false false q false lot dead k = refl

module _ (sizes : Sizes) where
  pub lot_is_no_handle : (i : ℕ) → is_lot sizes i ≡ true → i < sizes.handles → ⊥
  lot_is_no_handle i lot below =
      let e : ltb i sizes.handles ≡ true = lt-ltb i sizes.handles below in
      let no_lot : false ≡ true = rw e at lot in
      cc

  -- what has no life is not pending
  dead_is_not_pending : (i : ℕ) (P : History) → Fits sizes i P → is_lot sizes i ≡ true → lives i P ≡ false → is_pending i P ≡ false
  dead_is_not_pending i P f lot dead =
      dead-idle (ltb i sizes.handles) (lives i P) _ (is_pending i P) lot dead f.alive

  lot_not_dequeued : (i : ℕ) (P : History) (asked : EnqueueAsks) (s : ℕ) → Fits sizes i P → MayAsk sizes i asked s P → is_lot sizes i ≡ true → was_dequeued i P ≡ false
  lot_not_dequeued i P ToCallOnce s f h lot = (f.fresh s h.1).1
  lot_not_dequeued i P ToCall s f h lot = absurd (lot_is_no_handle i lot h)
  lot_not_dequeued i P ToCallIdle s f h lot = absurd (lot_is_no_handle i lot h)
  lot_not_dequeued i P ToDelete s f h lot = absurd (lot_is_no_handle i lot h)

  enqueue_same : (P : History) (i : ℕ) (asked : EnqueueAsks) (s : ℕ) (was : _) → Fits sizes i P → MayFollow sizes (Enqueue i asked s was) P → Fits sizes i (Enqueue i asked s was ∷ P)
  enqueue_same P i asked s was f h =
      let e : eqb i i ≡ true = eq-eqb i i refl in
      record {
        once = rw e (once-enqueue (is_pending i P) (was_put i P) _ _ f.once f.enqueued);
        enqueued = rw e (λ _. refl);
        alive = rw e (λ _. h.0);
        fresh = rw e (λ t q. absurd cc);
        done = rw e (λ lot d. absurd (let n = lot_not_dequeued i P asked s f h.2 lot in cc));
      }

  enqueue_other : (P : History) (i j : ℕ) (asked : EnqueueAsks) (s : ℕ) (was : _) → Fits sizes i P → eqb i j ≡ false → Fits sizes i (Enqueue j asked s was ∷ P)
  enqueue_other P i j asked s was f e =
      record {
        once = rw e f.once;
        enqueued = rw e f.enqueued;
        alive = rw e f.alive;
        fresh = rw e f.fresh;
        done = rw e f.done;
      }

  put_same : (P : History) (i s : ℕ) → Fits sizes i P → MayFollow sizes (Put i s) P → Fits sizes i (Put i s ∷ P)
  put_same P i s f h =
      let e : eqb i i ≡ true = eq-eqb i i refl in
      record {
        once = rw e (once-put (is_pending i P) (was_put i P) _ _ f.once h.0);
        enqueued = rw e (λ _. put_is_pending (is_pending i P) (was_put i P) h.0);
        alive = f.alive;
        fresh = f.fresh;
        done = f.done;
      }

  put_other : (P : History) (i j s : ℕ) → Fits sizes i P → eqb i j ≡ false → Fits sizes i (Put j s ∷ P)
  put_other P i j s f e =
      record {
        once = rw e (omega (arith, f.once));
        enqueued = rw e f.enqueued;
        alive = f.alive;
        fresh = f.fresh;
        done = f.done;
      }

  take_any : (P : History) (i : ℕ) → IsLegal sizes P → Fits sizes i P → Fits sizes i (Take ∷ P)
  take_any P i legal f =
      record {
        once = rw (out_of-take sizes P legal) (omega (arith, f.once, times_of-append i (out_of P) (stack_of P)));
        enqueued = f.enqueued;
        alive = f.alive;
        fresh = f.fresh;
        done = f.done;
      }

  dequeue_same : (P : History) (i : ℕ) (ran : Bool) → Fits sizes i P → MayFollow sizes (Dequeue i ran) P → Fits sizes i (Dequeue i ran ∷ P)
  dequeue_same P i ran f h =
      let e : eqb i i ≡ true = eq-eqb i i refl in
      let count : times_of i (out_of P) ≡ 1 + times_of i (out_of (Dequeue i ran ∷ P)) = rw (out_of-dequeue P i ran h.0, e) refl in
      let was = out_is_pending (is_pending i P) (was_put i P) (times_of i (stack_of P)) (times_of i (out_of P)) (times_of i (out_of (Dequeue i ran ∷ P))) f.once count in
      record {
        once = rw e (omega (arith, was.1));
        enqueued = rw e (λ q. absurd cc);
        alive = rw e (λ q. absurd cc);
        fresh = λ s q. absurd (let idle = (f.fresh s q).0 in cc (was.0));
        done = rw e (λ _ _. refl);
      }

  -- what is the first of out is pending
  pub head_is_pending : (P : History) (i : ℕ) (ran : Bool) → Fits sizes i P → head_of (out_of P) ≡ Some i → is_pending i P ≡ true
  head_is_pending P i ran f first =
      let e : eqb i i ≡ true = eq-eqb i i refl in
      let count : times_of i (out_of P) ≡ 1 + times_of i (out_of (Dequeue i ran ∷ P)) = rw (out_of-dequeue P i ran first, e) refl in
      (out_is_pending (is_pending i P) (was_put i P) (times_of i (stack_of P)) (times_of i (out_of P)) (times_of i (out_of (Dequeue i ran ∷ P))) f.once count).0

  dequeue_other : (P : History) (i j : ℕ) (ran : Bool) → Fits sizes i P → MayFollow sizes (Dequeue j ran) P → eqb i j ≡ false → Fits sizes i (Dequeue j ran ∷ P)
  dequeue_other P i j ran f h e =
      let count : times_of i (out_of P) ≡ 0 + times_of i (out_of (Dequeue j ran ∷ P)) = rw (out_of-dequeue P j ran h.0, e) refl in
      record {
        once = rw e (omega (arith, f.once, count));
        enqueued = rw e f.enqueued;
        alive = rw e f.alive;
        fresh = rw e f.fresh;
        done = rw e f.done;
      }

  -- a life of a lot begins or ends where it is not pending
  rest_once : (P : History) (i : ℕ) → Fits sizes i P → is_pending i P ≡ false → times_of i (stack_of P) + times_of i (out_of P) ≡ 0
  rest_once P i f idle = none-idle (is_pending i P) (was_put i P) _ _ f.once idle

  new_same : (P : History) (i s job : ℕ) → Fits sizes i P → MayFollow sizes (New i s job) P → Fits sizes i (New i s job ∷ P)
  new_same P i s job f h =
      let e : eqb i i ≡ true = eq-eqb i i refl in
      let none = rest_once P i f (dead_is_not_pending i P f h.0 h.1) in
      record {
        once = rw e (omega (arith, none));
        enqueued = rw e (λ q. absurd cc);
        alive = rw e (λ q. absurd cc);
        fresh = rw e (λ _ _. (refl, refl));
        done = rw e (λ _ _. refl);
      }

  new_other : (P : History) (i j s job : ℕ) → Fits sizes i P → eqb i j ≡ false → Fits sizes i (New j s job ∷ P)
  new_other P i j s job f e =
      record {
        once = rw e f.once;
        enqueued = rw e f.enqueued;
        alive = rw e f.alive;
        fresh = rw e f.fresh;
        done = rw e f.done;
      }

  free_same : (P : History) (i : ℕ) → Fits sizes i P → MayFollow sizes (Free i) P → Fits sizes i (Free i ∷ P)
  free_same P i f h =
      let e : eqb i i ≡ true = eq-eqb i i refl in
      let none = rest_once P i f (f.done h.0 h.2) in
      record {
        once = rw e (omega (arith, none));
        enqueued = rw e (λ q. absurd cc);
        alive = rw e (λ q. absurd cc);
        fresh = rw e (λ t q. absurd cc);
        done = rw e (λ _ _. refl);
      }

  free_other : (P : History) (i j : ℕ) → Fits sizes i P → eqb i j ≡ false → Fits sizes i (Free j ∷ P)
  free_other P i j f e =
      record {
        once = rw e f.once;
        enqueued = rw e f.enqueued;
        alive = rw e f.alive;
        fresh = rw e f.fresh;
        done = rw e f.done;
      }

pub fits : (sizes : Sizes) (history : History) (i : ℕ) → IsLegal sizes history → Fits sizes i history
fits sizes [] i legal =
    record { once = refl; enqueued = λ q. absurd cc; alive = λ q. absurd cc; fresh = λ s q. absurd cc; done = λ _ _. refl }
fits sizes (New j s job ∷ P) i legal =
    by_index i j (λ k. MayFollow sizes (New k s job) P → Fits sizes i (New k s job ∷ P)) (new_same sizes P i s job (fits sizes P i legal.1)) (λ e _. new_other sizes P i j s job (fits sizes P i legal.1) e) legal.0
fits sizes (Enqueue j asked s was ∷ P) i legal =
    by_index i j (λ k. MayFollow sizes (Enqueue k asked s was) P → Fits sizes i (Enqueue k asked s was ∷ P)) (enqueue_same sizes P i asked s was (fits sizes P i legal.1)) (λ e _. enqueue_other sizes P i j asked s was (fits sizes P i legal.1) e) legal.0
fits sizes (Put j s ∷ P) i legal =
    by_index i j (λ k. MayFollow sizes (Put k s) P → Fits sizes i (Put k s ∷ P)) (put_same sizes P i s (fits sizes P i legal.1)) (λ e _. put_other sizes P i j s (fits sizes P i legal.1) e) legal.0
fits sizes (Cancel j s was ∷ P) i legal =
    let f = fits sizes P i legal.1 in
    record { once = f.once; enqueued = f.enqueued; alive = f.alive; fresh = f.fresh; done = f.done }
fits sizes (Take ∷ P) i legal = take_any sizes P i legal.1 (fits sizes P i legal.1)
fits sizes (Dequeue j ran ∷ P) i legal =
    by_index i j (λ k. MayFollow sizes (Dequeue k ran) P → Fits sizes i (Dequeue k ran ∷ P)) (dequeue_same sizes P i ran (fits sizes P i legal.1)) (λ e h. dequeue_other sizes P i j ran (fits sizes P i legal.1) legal.0 e) legal.0
fits sizes (Free j ∷ P) i legal =
    by_index i j (λ k. MayFollow sizes (Free k) P → Fits sizes i (Free k ∷ P)) (free_same sizes P i (fits sizes P i legal.1)) (λ e _. free_other sizes P i j (fits sizes P i legal.1) e) legal.0
fits sizes (SetEvent e s ∷ P) i legal =
    let f = fits sizes P i legal.1 in
    record { once = f.once; enqueued = f.enqueued; alive = f.alive; fresh = f.fresh; done = f.done }
fits sizes (ClearEvent e was ∷ P) i legal =
    let f = fits sizes P i legal.1 in
    record { once = f.once; enqueued = f.enqueued; alive = f.alive; fresh = f.fresh; done = f.done }

pub announced_once : IsAnnouncedOnce
announced_once sizes history i legal = (fits sizes history i legal).once
