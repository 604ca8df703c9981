-- A walk along a list, from the first index to the next and on.
use Rattle.std.proofs.Common.{◌≡◌, ℕ, true, false, eqb, List, [], ◌∷◌, ◌++◌, Some, IfSome, refl, sym, ◌∙◌, ap, subst}
use Rattle.std.proofs.lemmas.Bool.{eq-eqb, or_parts, or_left, or_right}
use Rattle.std.proofs.lemmas.List.{append_assoc}
use Rattle.aio_chain.specs.LinkList.{contains, first_of, next_after, IsEachOnce, rest_at, rest_from}
use Rattle.aio_chain.proofs.Contained.{split_at, contains-right, once_middle}
use Rattle.aio_chain.proofs.Steps.{next_after-split}

pub rest_at-split : (i : ℕ) (xs ys : List ℕ) → contains i xs ≡ false → rest_at i (xs ++ i ∷ ys) ≡ i ∷ ys
rest_at-split i [] ys h = let i_i = eq-eqb i i refl in rw i_i refl
rest_at-split i (x ∷ xs) ys h =
    let parts = or_parts (eqb i x) (contains i xs) h in
    rw parts.0 (rest_at-split i xs ys parts.1)

-- a walk begins with the whole list
pub rest_from-first : (items : List ℕ) → rest_from (first_of items) items ≡ items
rest_from-first [] = refl
rest_from-first (x ∷ rest) = let x_x = eq-eqb x x refl in rw x_x refl

-- a walk stands at an index of the list
pub first_in : (items : List ℕ) → IfSome (first_of items) (λ i. contains i items ≡ true)
first_in [] = tt
first_in (x ∷ rest) = or_left _ _ (eq-eqb x x refl)

-- one step of a walk
pub record Stepped (items : List ℕ) (i : ℕ) : Type 0 where
  pub rest : rest_at i items ≡ i ∷ rest_from (next_after i items) items
  pub next_in : IfSome (next_after i items) (λ next. contains next items ≡ true)

stepped_at : (i : ℕ) (front back : List ℕ) → contains i front ≡ false → IsEachOnce (front ++ i ∷ back) → Stepped (front ++ i ∷ back) i
stepped_at i front [] absent once =
    let next = next_after-split i front [] absent in
    record {
      rest = rest_at-split i front [] absent ∙ ap (λ o. i ∷ rest_from o (front ++ i ∷ [])) (sym next);
      next_in = subst (λ o. IfSome o (λ next. contains next (front ++ i ∷ []) ≡ true)) (sym next) tt;
    }
stepped_at i front (x ∷ back) absent once =
    let next = next_after-split i front (x ∷ back) absent in
    let moved : front ++ i ∷ x ∷ back ≡ (front ++ i ∷ []) ++ x ∷ back = sym (append_assoc front (i ∷ []) (x ∷ back)) in
    let apart = (once_middle x (front ++ i ∷ []) back (subst IsEachOnce moved once)).0 in
    let rest : rest_at x (front ++ i ∷ x ∷ back) ≡ x ∷ back = ap (rest_at x) moved ∙ rest_at-split x (front ++ i ∷ []) back apart in
    record {
      rest =
          rest_at-split i front (x ∷ back) absent ∙ ap (λ ys. i ∷ ys) (sym rest) ∙ ap (λ o. i ∷ rest_from o (front ++ i ∷ x ∷ back)) (sym next);
      next_in =
          subst (λ o. IfSome o (λ next. contains next (front ++ i ∷ x ∷ back) ≡ true)) (sym next) (contains-right x front (i ∷ x ∷ back) (or_right (eqb x i) _ (or_left _ _ (eq-eqb x x refl))));
    }

pub stepped : (items : List ℕ) (i : ℕ) → IsEachOnce items → contains i items ≡ true → Stepped items i
stepped items i once here =
    let cut = split_at i items here in
    subst (λ xs. Stepped xs i) (sym cut.is) (stepped_at i cut.front cut.back cut.absent (subst IsEachOnce cut.is once))

pub contains-first : (items : List ℕ) (i : ℕ) → first_of items ≡ Some i → contains i items ≡ true
contains-first items i e = subst (λ o. IfSome o (λ i. contains i items ≡ true)) e (first_in items)
