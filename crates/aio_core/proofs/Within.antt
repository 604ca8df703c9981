-- What home has taken stays among the indices of the table.
use Rattle.std.proofs.Common.{◌≡◌, ℕ, ◌<◌, ◌≤◌, Bool, true, false, cond, ◌&&◌, eqb, ltb, leb, List, [], ◌∷◌, ◌++◌, length, length-append, refl, sym, ap, ◌∙◌, subst, arith}
use Rattle.std.proofs.lemmas.Bool.{and_parts, and_from, lt-ltb, le-leb, eqb-false}
use Rattle.aio_model.specs.Loop.History.{Sizes}
use Rattle.aio_core.specs.Words.{index_count}
use Rattle.aio_core.specs.Known.{Known}
use Rattle.aio_core.specs.Standing.{with_slice, Takes}
use Rattle.aio_core.specs.HomeState.{are_within, is_handle}

within_back : (sizes : Sizes) (slices : List ℕ) (word : ℕ) → are_within sizes slices ≡ true → 0 < word → word ≤ index_count sizes → are_within sizes (slices ++ word ∷ []) ≡ true
within_back sizes [] word h low high =
    and_from _ _ (lt-ltb 0 word low) (and_from _ _ (le-leb word (index_count sizes) high) refl)
within_back sizes (w ∷ slices) word h low high =
    let a = and_parts (ltb 0 w) (leb w (index_count sizes) && are_within sizes slices) h in
    let b = and_parts (leb w (index_count sizes)) (are_within sizes slices) a.1 in
    and_from _ _ a.0 (and_from _ _ b.0 (within_back sizes slices word b.1 low high))

within_push : (sizes : Sizes) (slices : List ℕ) (word : ℕ) (b : Bool) → eqb word 0 ≡ b → are_within sizes slices ≡ true → word ≤ index_count sizes → are_within sizes (cond b slices (slices ++ word ∷ [])) ≡ true
within_push sizes slices word true is h high = h
within_push sizes slices word false is h high =
    within_back sizes slices word h (let no = eqb-false word 0 is in omega arith) high

pub taken_within : (found : ℕ) (v w : Known) (old new : List ℕ) → Takes found v w → new ≡ with_slice old found → are_within v.sizes old ≡ true → are_within w.sizes new ≡ true
taken_within found v w old new takes is h =
    subst (λ z. are_within z new ≡ true) (sym (ap (λ (k : Known). k.sizes) takes.rest)) (subst (λ l. are_within v.sizes l ≡ true) (sym is) (within_push v.sizes old found (eqb found 0) refl h takes.below))

pub taken_same : (found : ℕ) (v w : Known) (old new : List ℕ) → Takes found v w → old ≡ v.stage.slices → new ≡ with_slice old found → new ≡ w.stage.slices
taken_same found v w old new takes same is =
    is ∙ ap (λ (l : List ℕ). with_slice l found) same ∙ sym (ap (λ (k : Known). k.stage.slices) takes.rest)

pub taken_hand : (found : ℕ) (v w : Known) → Takes found v w → is_handle v.sizes v.stage.hand ≡ true → is_handle w.sizes w.stage.hand ≡ true
taken_hand found v w takes h =
    ap (λ (k : Known). is_handle k.sizes k.stage.hand) takes.rest ∙ h

few_after : (slices : List ℕ) (word : ℕ) (b : Bool) → length slices < 8 → length (cond b slices (slices ++ word ∷ [])) ≤ 8
few_after slices word true low = omega arith
few_after slices word false low = let sum = length-append slices (word ∷ []) in omega (arith, sum, low)

pub taken_few : (word : ℕ) (old new slices : List ℕ) → old ≡ slices → length slices < 8 → new ≡ with_slice old word → length new ≤ 8
taken_few word old new slices same low is =
    subst (λ l. length l ≤ 8) (sym is) (few_after old word (eqb word 0) (subst (λ l. length l < 8) (sym same) low))
