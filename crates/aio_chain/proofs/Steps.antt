-- The steps on a list of indices, where it is cut at an index.
use Rattle.std.proofs.Common.{◌≡◌, ℕ, true, false, ◌||◌, eqb, List, [], ◌∷◌, ◌++◌, length, ◌<◌, ◌≤◌, Some, refl, sym, ◌∙◌, ap, inl, inr, arith}
use Rattle.std.proofs.lemmas.Bool.{cases_Bool, both_ways, eq-eqb, eqb-true, or_parts, or_from}
use Rattle.aio_chain.specs.LinkList.{contains, first_of, next_after, put_before, without}

pub next_after-split : (i : ℕ) (xs ys : List ℕ) → contains i xs ≡ false → next_after i (xs ++ i ∷ ys) ≡ first_of ys
next_after-split i [] ys h = rw (eq-eqb i i refl) refl
next_after-split i (x ∷ xs) ys h =
    let parts = or_parts (eqb i x) (contains i xs) h in
    rw parts.0 (next_after-split i xs ys parts.1)

pub put_before-split : (at i : ℕ) (xs ys : List ℕ) → contains at xs ≡ false → put_before at i (xs ++ at ∷ ys) ≡ xs ++ i ∷ at ∷ ys
put_before-split at i [] ys h = rw (eq-eqb at at refl) refl
put_before-split at i (x ∷ xs) ys h =
    let parts = or_parts (eqb at x) (contains at xs) h in
    rw parts.0 (ap (λ zs. x ∷ zs) (put_before-split at i xs ys parts.1))

pub without-absent : (i : ℕ) (xs : List ℕ) → contains i xs ≡ false → without i xs ≡ xs
without-absent i [] h = refl
without-absent i (x ∷ xs) h =
    let parts = or_parts (eqb i x) (contains i xs) h in
    rw parts.0 (ap (λ zs. x ∷ zs) (without-absent i xs parts.1))

pub without-split : (i : ℕ) (xs ys : List ℕ) → contains i xs ≡ false → contains i ys ≡ false → without i (xs ++ i ∷ ys) ≡ xs ++ ys
without-split i [] ys h k = rw (eq-eqb i i refl) (without-absent i ys k)
without-split i (x ∷ xs) ys h k =
    let parts = or_parts (eqb i x) (contains i xs) h in
    rw parts.0 (ap (λ zs. x ∷ zs) (without-split i xs ys parts.1 k))

pub contains-without_same : (i : ℕ) (xs : List ℕ) → contains i (without i xs) ≡ false
contains-without_same i [] = refl
contains-without_same i (x ∷ xs) = elim (cases_Bool (eqb i x)) [
  | inl e ↦ rw e (contains-without_same i xs)
  | inr ne ↦ rw ne (or_from _ _ ne (contains-without_same i xs))
]

pub contains-without_other : (k i : ℕ) (xs : List ℕ) → eqb k i ≡ false → contains k (without i xs) ≡ contains k xs
contains-without_other k i [] apart = refl
contains-without_other k i (x ∷ xs) apart = elim (cases_Bool (eqb i x)) [
  | inl e ↦
      let k_x : eqb k x ≡ false = ap (eqb k) (sym (eqb-true i x e)) ∙ apart in
      rw (e, k_x) (contains-without_other k i xs apart)
  | inr ne ↦ rw ne (ap (λ b. eqb k x || b) (contains-without_other k i xs apart))
]

pub length-without-le : (i : ℕ) (xs : List ℕ) → length (without i xs) ≤ length xs
length-without-le i [] = omega arith
length-without-le i (x ∷ xs) = elim (cases_Bool (eqb i x)) [
  | inl e ↦ rw e (omega (arith, length-without-le i xs))
  | inr ne ↦ rw ne (omega (arith, length-without-le i xs))
]

-- a list is shorter without its first index
pub length-without_first : (x : ℕ) (xs : List ℕ) → first_of xs ≡ Some x → length (without x xs) < length xs
length-without_first x [] e = absurd (cc)
length-without_first x (y ∷ xs) e =
    let same : x ≡ y = cc in
    let here : eqb x y ≡ true = eq-eqb x y same in
    rw here (omega (arith, length-without-le x xs))

pub contains-from_without : (k i : ℕ) (xs : List ℕ) → contains k (without i xs) ≡ true → contains k xs ≡ true
contains-from_without k i xs h = elim (cases_Bool (eqb k i)) [
  | inl e ↦
      let gone : contains k (without i xs) ≡ false = ap (λ x. contains x (without i xs)) (eqb-true k i e) ∙ contains-without_same i xs in
      absurd (both_ways (contains k (without i xs)) gone h)
  | inr ne ↦ sym (contains-without_other k i xs ne) ∙ h
]
