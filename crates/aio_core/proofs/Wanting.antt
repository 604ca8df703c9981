-- What an entry makes of what is wanted, announced and pushed.
use Rattle.std.proofs.Common.{◌≡◌, ◌≢◌, ◌⊎◌, ℕ, Bool, true, false, not, cond, ◌&&◌, ◌||◌, eqb, ◌∷◌, inl, inr, refl, sym, ap, ◌∙◌, subst, ⊎_elim}
use Rattle.std.proofs.lemmas.Bool.{cases_eq, cases_Bool, eq-eqb, ne_eqb}
use Rattle.aio_model.specs.declared.loops.flags.Flags.{Flags}
use Rattle.aio_model.specs.Loop.History.{EnqueueAsks, Enqueue, Put, Cancel, Dequeue, History}
use Rattle.aio_model.specs.Loop.Flags.{is_pending, flags_of, are_urgent, is_urgent}
use Rattle.aio_model.specs.Loop.Lists.{was_put, is_announced, is_set}
use Rattle.aio_model.specs.Loop.InFlight.{Reason, ForIndex, ForEvent, ForNothing, Announced, ToStore}
use Rattle.aio_core.specs.Rule.{push_of, store_of, is_wanted}
use Rattle.aio_core.proofs.Masks.{canceled_flags, dequeued_flags}
use Rattle.aio_core.proofs.Flags.{flags_of-cancel, flags_of-cancel_other, flags_of-dequeue, flags_of-dequeue_other, flags_of-enqueue_other}

-- entries that are about no flags and no event
pub wanted_same : (r : Reason) (h g : History) → ((i : ℕ) → flags_of i g ≡ flags_of i h) → ((e : ℕ) → is_set e g ≡ is_set e h) → is_wanted r g ≡ true → is_wanted r h ≡ true
wanted_same (ForIndex i) h g flags set is = sym (ap are_urgent (flags i)) ∙ is
wanted_same (ForEvent e) h g flags set is = sym (set e) ∙ is
wanted_same ForNothing h g flags set is = is

pub same_reason_index : (i j : ℕ) → ForIndex i ≡ ForIndex j → i ≡ j
same_reason_index i j e = cc

-- An enqueue.

pub wanted_enqueue : (r : Reason) (i s : ℕ) (asked : EnqueueAsks) (was : Flags) (h : History) → is_wanted r (Enqueue i asked s was ∷ h) ≡ true → (is_wanted r h ≡ true) ⊎ (ForIndex i ≡ r)
wanted_enqueue (ForIndex j) i s asked was h is =
    ⊎_elim (λ (e : j ≡ i). inr (ap ForIndex (sym e))) (λ (ne : j ≢ i). inl (sym (ap are_urgent (flags_of-enqueue_other j i s asked was h ne)) ∙ is)) (cases_eq j i)
wanted_enqueue (ForEvent e) i s asked was h is = inl is
wanted_enqueue ForNothing i s asked was h is = inl is

announced_if : (p w : Bool) → p ≡ true → (true && not w) ≡ true → (p && not w) ≡ true
announced_if true w e a = a
announced_if false w e a = absurd cc

pub announced_enqueue : (j i s : ℕ) (asked : EnqueueAsks) (was : Flags) (h : History) → is_announced j (Enqueue i asked s was ∷ h) ≡ true → (is_announced j h ≡ true) ⊎ ((j ≡ i) × (is_pending i h ≡ false))
announced_enqueue j i s asked was h is =
    ⊎_elim (λ (e : j ≡ i). ⊎_elim (λ (p : is_pending i h ≡ true). inl (subst (λ k. is_announced k h ≡ true) (sym e) (here p (subst (λ k. is_announced k (Enqueue i asked s was ∷ h) ≡ true) e is)))) (λ (p : is_pending i h ≡ false). inr (e, p)) (cases_Bool (is_pending i h))) (λ (ne : j ≢ i). inl (let other : eqb j i ≡ false = ne_eqb j i ne in rw other at is)) (cases_eq j i)
  where
    here : is_pending i h ≡ true → is_announced i (Enqueue i asked s was ∷ h) ≡ true → is_announced i h ≡ true
    here p a =
        let same : eqb i i ≡ true = eq-eqb i i refl in
        announced_if (is_pending i h) (was_put i h) p (rw same at a)

-- the phase after it, as the index was pending or not
pub stores_enqueued : (i : ℕ) (b : Bool) → store_of (cond b (ToStore (ForIndex i)) (Announced i)) ≡ ForIndex i
stores_enqueued i true = refl
stores_enqueued i false = refl

pub pushes_enqueued : (i : ℕ) (b : Bool) → b ≡ false → push_of (cond b (ToStore (ForIndex i)) (Announced i)) ≡ ForIndex i
pushes_enqueued i true e = absurd cc
pushes_enqueued i false e = refl

-- A push.

pub announced_put : (j i s : ℕ) (h : History) → is_announced j (Put i s ∷ h) ≡ true → (j ≢ i) × (is_announced j h ≡ true)
announced_put j i s h is =
    ⊎_elim (λ (e : j ≡ i). absurd (none (is_pending i h) (was_put i h) (let same : eqb i i ≡ true = eq-eqb i i refl in rw same at (subst (λ k. is_announced k (Put i s ∷ h) ≡ true) e is)))) (λ (ne : j ≢ i). (ne, let other : eqb j i ≡ false = ne_eqb j i ne in rw other at is)) (cases_eq j i)
  where
    none : (p w : Bool) → (p && not (true || w)) ≡ true → ⊥
    none true w a = cc
    none false w a = cc

pub put_put : (j i s : ℕ) (h : History) → was_put j h ≡ true → was_put j (Put i s ∷ h) ≡ true
put_put j i s h is = either (eqb j i) (was_put j h) is
  where
    either : (a b : Bool) → b ≡ true → (a || b) ≡ true
    either true b e = refl
    either false b e = e

-- A cancel, and a dequeue.

no_urgent-canceled : (f : Flags) → are_urgent (canceled_flags f) ≡ true → ⊥
no_urgent-canceled f e = cc

no_urgent-dequeued : (f : Flags) → are_urgent (dequeued_flags f) ≡ true → ⊥
no_urgent-dequeued f e = cc

pub wanted_cancel : (r : Reason) (i s : ℕ) (was : Flags) (h : History) → is_wanted r (Cancel i s was ∷ h) ≡ true → is_wanted r h ≡ true
wanted_cancel (ForIndex j) i s was h is =
    ⊎_elim (λ (e : j ≡ i). absurd (no_urgent-canceled (flags_of i h) (sym (ap are_urgent (flags_of-cancel i s was h)) ∙ subst (λ k. is_urgent k (Cancel i s was ∷ h) ≡ true) e is))) (λ (ne : j ≢ i). sym (ap are_urgent (flags_of-cancel_other j i s was h ne)) ∙ is) (cases_eq j i)
wanted_cancel (ForEvent e) i s was h is = is
wanted_cancel ForNothing i s was h is = is

pub wanted_dequeue : (r : Reason) (i : ℕ) (ran : Bool) (h : History) → is_wanted r (Dequeue i ran ∷ h) ≡ true → is_wanted r h ≡ true
wanted_dequeue (ForIndex j) i ran h is =
    ⊎_elim (λ (e : j ≡ i). absurd (no_urgent-dequeued (flags_of i h) (sym (ap are_urgent (flags_of-dequeue i ran h)) ∙ subst (λ k. is_urgent k (Dequeue i ran ∷ h) ≡ true) e is))) (λ (ne : j ≢ i). sym (ap are_urgent (flags_of-dequeue_other j i ran h ne)) ∙ is) (cases_eq j i)
wanted_dequeue (ForEvent e) i ran h is = is
wanted_dequeue ForNothing i ran h is = is

pub announced_dequeue : (j i : ℕ) (ran : Bool) (h : History) → is_announced j (Dequeue i ran ∷ h) ≡ true → is_announced j h ≡ true
announced_dequeue j i ran h is =
    ⊎_elim (λ (e : j ≡ i). absurd (let same : eqb i i ≡ true = eq-eqb i i refl in let no : false ≡ true = rw same at (subst (λ k. is_announced k (Dequeue i ran ∷ h) ≡ true) e is) in cc)) (λ (ne : j ≢ i). let other : eqb j i ≡ false = ne_eqb j i ne in rw other at is) (cases_eq j i)
