-- Lists of indices: how often one stands there, the first, and what is left after some.
use Rattle.std.proofs.Common.{◌≡◌, ◌≢◌, ℕ, zero, suc, ◌+◌, ◌<◌, false, eqb, List, [], ◌∷◌, ◌++◌, length, drop, Some, sym, subst, inl, inr, arith}
use Rattle.std.proofs.lemmas.Bool.{cases_eq, ne_eqb}
use Rattle.aio_model.specs.Loop.Lists.{head_of}
use Rattle.aio_model.specs.Loop.Laws.{times_of}

-- a fact of every index, from the one at hand and any other
pub by_index : (i j : ℕ) (Q : ℕ → Type 0) → Q i → (eqb i j ≡ false → Q j) → Q j
by_index i j Q same other =
    elim (cases_eq i j) [ inl e ↦ subst Q e same | inr ne ↦ other (ne_eqb i j ne) ]

-- the same, where it is the other that is compared
pub by_query : (i j : ℕ) (Q : ℕ → Type 0) → Q i → (j ≢ i → eqb j i ≡ false → Q j) → Q j
by_query i j Q same other =
    elim (cases_eq j i) [ inl e ↦ subst Q (sym e) same | inr ne ↦ other ne (ne_eqb j i ne) ]

pub times_of-append : (i : ℕ) (xs ys : List ℕ) → times_of i (xs ++ ys) ≡ times_of i xs + times_of i ys
times_of-append i [] ys = omega arith
times_of-append i (x ∷ xs) ys = omega (arith, times_of-append i xs ys)

pub drop-head : (n : ℕ) (xs : List ℕ) (i : ℕ) → head_of (drop n xs) ≡ Some i → drop n xs ≡ i ∷ drop (suc n) xs
drop-head zero [] i h = cc
drop-head zero (x ∷ xs) i h = cc
drop-head (suc n) [] i h = cc
drop-head (suc n) (x ∷ xs) i h = drop-head n xs i h

pub head-below : (n : ℕ) (xs : List ℕ) (i : ℕ) → head_of (drop n xs) ≡ Some i → n < length xs
head-below zero [] i h = cc
head-below zero (x ∷ xs) i h = omega arith
head-below (suc n) [] i h = cc
head-below (suc n) (x ∷ xs) i h = omega (arith, head-below n xs i h)
