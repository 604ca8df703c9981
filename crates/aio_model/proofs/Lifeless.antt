-- A lot without a life has no flags, and was not dequeued.
use Rattle.std.proofs.Common.{◌≡◌, ℕ, true, false, eqb, ltb, [], ◌∷◌, refl, ap}
use Rattle.std.proofs.lemmas.Bool.{eq-eqb, or_parts, and_parts, not-true}
use Rattle.aio_model.specs.Loop.History.{Sizes, New, Enqueue, Put, Cancel, Take, Dequeue, Free, SetEvent, ClearEvent, History}
use Rattle.aio_model.specs.Loop.Flags.{has_life, lives, is_lot, is_pending}
use Rattle.aio_model.specs.Loop.Legal.{MayFollow, IsLegal}
use Rattle.aio_model.specs.Loop.State.{blank, half_of}
use Rattle.aio_model.proofs.Indices.{by_index}
use Rattle.aio_model.proofs.AnnouncedOnce.{fits, lot_is_no_handle, head_is_pending}

pub lot_above : (sizes : Sizes) (i : ℕ) → is_lot sizes i ≡ true → ltb i sizes.handles ≡ false
lot_above sizes i lot = not-true _ (and_parts _ _ lot).0

has_no_life : (sizes : Sizes) (i : ℕ) (P : History) → is_lot sizes i ≡ true → lives i P ≡ false → has_life sizes i P ≡ true → ⊥
has_no_life sizes i P lot dead alive =
    let none : false ≡ true = rw (lot_above sizes i lot, dead) at alive in
    cc

pub half_of-lifeless : (sizes : Sizes) (i : ℕ) (H : History) → IsLegal sizes H → is_lot sizes i ≡ true → lives i H ≡ false → half_of i H ≡ blank
half_of-lifeless sizes i [] legal lot h = refl
half_of-lifeless sizes i (New j s job ∷ P) legal lot h =
    let parts = or_parts (eqb i j) (lives i P) h in
    let e : eqb i j ≡ false = parts.0 in
    rw e (half_of-lifeless sizes i P legal.1 lot parts.1)
half_of-lifeless sizes i (Enqueue j asked s was ∷ P) legal lot h =
    by_index i j (λ k. MayFollow sizes (Enqueue k asked s was) P → half_of i (Enqueue k asked s was ∷ P) ≡ blank) (λ may. absurd (has_no_life sizes i P lot h may.0)) (λ e _. rw e (half_of-lifeless sizes i P legal.1 lot h)) legal.0
half_of-lifeless sizes i (Put j s ∷ P) legal lot h = half_of-lifeless sizes i P legal.1 lot h
half_of-lifeless sizes i (Cancel j s was ∷ P) legal lot h =
    by_index i j (λ k. MayFollow sizes (Cancel k s was) P → half_of i (Cancel k s was ∷ P) ≡ blank) (λ may. absurd (lot_is_no_handle sizes i lot may.0)) (λ e _. rw e (half_of-lifeless sizes i P legal.1 lot h)) legal.0
half_of-lifeless sizes i (Take ∷ P) legal lot h = half_of-lifeless sizes i P legal.1 lot h
half_of-lifeless sizes i (Dequeue j ran ∷ P) legal lot h =
    let before = half_of-lifeless sizes i P legal.1 lot h in
    by_index i j (λ k. MayFollow sizes (Dequeue k ran) P → half_of i (Dequeue k ran ∷ P) ≡ blank) (λ may. absurd (let p = head_is_pending sizes P i ran (fits sizes P i legal.1) may.0 in let n : is_pending i P ≡ false = ap (λ x. x.flags.pending) before in cc)) (λ e _. rw e before) legal.0
half_of-lifeless sizes i (Free j ∷ P) legal lot h =
    by_index i j (λ k. lives i (Free k ∷ P) ≡ false → half_of i (Free k ∷ P) ≡ blank) (λ _. let e : eqb i i ≡ true = eq-eqb i i refl in rw e refl) (λ e dead. rw e (half_of-lifeless sizes i P legal.1 lot (rw e at dead))) h
half_of-lifeless sizes i (SetEvent e s ∷ P) legal lot h = half_of-lifeless sizes i P legal.1 lot h
half_of-lifeless sizes i (ClearEvent e was ∷ P) legal lot h = half_of-lifeless sizes i P legal.1 lot h
