-- The end of a lot's life: a lot that was dequeued may be freed, and still may after anything but its freeing.
use Rattle.std.proofs.Common.{◌≡◌, ℕ, Bool, true, false, ◌||◌, cond, eqb, ltb, [], ◌∷◌, ◌++◌, refl, sym, ◌∙◌, subst}
use Rattle.std.proofs.lemmas.Bool.{and_parts, ne_eqb, eq-eqb}
use Rattle.aio_model.specs.Loop.History.{Sizes, Entry, New, Enqueue, Put, Cancel, Take, Dequeue, Free, SetEvent, ClearEvent, History}
use Rattle.aio_model.specs.Loop.Flags.{lives, is_lot, was_dequeued, is_pending, frees}
use Rattle.aio_model.specs.Loop.Lists.{seat_of}
use Rattle.aio_model.specs.Loop.Legal.{MayFollow, IsLegal}
use Rattle.aio_model.specs.Loop.Seats.{home, entries_of}
use Rattle.aio_model.specs.Loop.Frame.{is_of_callback, are_of_callback}
use Rattle.aio_model.proofs.AnnouncedOnce.{fits, head_is_pending}
use Rattle.aio_model.proofs.Lifeless.{lot_above}

-- a lot that is pending lives
pub pending_lot_lives : (sizes : Sizes) (i : ℕ) (h : History) → IsLegal sizes h → is_lot sizes i ≡ true → is_pending i h ≡ true → lives i h ≡ true
pending_lot_lives sizes i h legal lot pending =
    by (ltb i sizes.handles) (lot_above sizes i lot) ((fits sizes h i legal).alive pending)
  where
    by : (b : Bool) → b ≡ false → (b || lives i h) ≡ true → lives i h ≡ true
    by true above k = absurd cc
    by false above k = k

-- a lot that was dequeued may be freed
pub may_free-dequeued : (sizes : Sizes) (i : ℕ) (ran : Bool) (h : History) → IsLegal sizes (Dequeue i ran ∷ h) → is_lot sizes i ≡ true → MayFollow sizes (Free i) (Dequeue i ran ∷ h)
may_free-dequeued sizes i ran h legal lot =
    let pending = head_is_pending sizes h i ran (fits sizes h i legal.1) legal.0.0 in
    let same : eqb i i ≡ true = eq-eqb i i refl in
    (lot, pending_lot_lives sizes i h legal.1 lot pending, rw same refl)

-- it still may after an entry that doesn't free it
pub may_free-after : (sizes : Sizes) (i : ℕ) (e : Entry) (h : History) → MayFollow sizes e h → frees i e ≡ false → MayFollow sizes (Free i) h → MayFollow sizes (Free i) (e ∷ h)
may_free-after sizes i (New j s job) h may no_end before =
    let away : eqb i j ≡ false = ne_eqb i j (λ q. let dead : lives i h ≡ false = subst (λ k. lives k h ≡ false) (sym q) may.1 in let both : true ≡ false = sym before.1 ∙ dead in cc) in
    (before.0, rw away before.1, rw away before.2)
may_free-after sizes i (Enqueue j asked s was) h may no_end before = before
may_free-after sizes i (Put j s) h may no_end before = before
may_free-after sizes i (Cancel j s was) h may no_end before = before
may_free-after sizes i Take h may no_end before = before
may_free-after sizes i (Dequeue j ran) h may no_end before =
    (before.0, before.1, either (eqb i j) (was_dequeued i h) before.2)
  where
    either : (a b : Bool) → b ≡ true → (a || b) ≡ true
    either true b e = refl
    either false b e = e
may_free-after sizes i (Free j) h may no_end before =
    (before.0, rw no_end before.1, rw no_end before.2)
may_free-after sizes i (SetEvent e s) h may no_end before = before
may_free-after sizes i (ClearEvent e was) h may no_end before = before

-- and after what a callback does through the home's seat, with what others do in between
pub may_free-between : (sizes : Sizes) (i : ℕ) (between h : History) → IsLegal sizes (between ++ h) → are_of_callback (entries_of home between) ≡ true → MayFollow sizes (Free i) h → MayFollow sizes (Free i) (between ++ h)
may_free-between sizes i [] h legal of_callback before = before
may_free-between sizes i (e ∷ between) h legal of_callback before =
    let split = parts (eqb (seat_of e) home) e (entries_of home between) of_callback in
    may_free-after sizes i e (between ++ h) legal.0 (no_free e split.0) (may_free-between sizes i between h legal.1 split.1 before)
  where
    parts : (b : Bool) (e : Entry) (l : History) → are_of_callback (cond b (e ∷ l) l) ≡ true → (b ≡ true → is_of_callback e ≡ true) × (are_of_callback l ≡ true)
    parts true e l q =
        let both = and_parts (is_of_callback e) (are_of_callback l) q in (λ _. both.0, both.1)
    parts false e l q = (λ no_home. absurd cc, q)

    no_free : (e : Entry) → (eqb (seat_of e) home ≡ true → is_of_callback e ≡ true) → frees i e ≡ false
    no_free (New j s job) q = refl
    no_free (Enqueue j asked s was) q = refl
    no_free (Put j s) q = refl
    no_free (Cancel j s was) q = refl
    no_free Take q = refl
    no_free (Dequeue j ran) q = refl
    no_free (Free j) q = absurd (let both : false ≡ true = q refl in cc)
    no_free (SetEvent f s) q = refl
    no_free (ClearEvent f was) q = refl
