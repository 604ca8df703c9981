-- Lists that others are mapped to.
use Rattle.std.proofs.Common.{◌≡◌, ◌+◌, ◌<◌, ℕ, zero, suc, List, [], ◌∷◌, ◌++◌, length, map, replicate, slice_index_or, append_assoc, refl, sym, ap, ◌∙◌, arith}
use Rattle.std.specs.List.{AllByRecursion}

pub length_pushed : {A : Type 0} (xs : List A) (x : A) → length (xs ++ x ∷ []) ≡ length xs + 1
length_pushed [] x = refl
length_pushed (y ∷ xs) x = omega (arith, length_pushed xs x)

module _ {A B : Type 0} (f : A → B) where
  -- a fact of each that a list was mapped to
  pub all_mapped : (P : B → Type 0) (xs : List A) → AllByRecursion (λ x. P (f x)) xs → AllByRecursion P (map f xs)
  all_mapped P [] each = tt
  all_mapped P (x ∷ xs) each = (each.0, all_mapped P xs each.1)

  -- and of the one at a place
  pub at_mapped : (P : B → Type 0) (xs : List A) (k : ℕ) → k < length xs → ((d : A) → P (f (slice_index_or xs k d))) → (e : B) → P (slice_index_or (map f xs) k e)
  at_mapped P [] k low here e = absurd (omega arith)
  at_mapped P (x ∷ xs) zero low here e = here x
  at_mapped P (x ∷ xs) (suc k) low here e = at_mapped P xs k (omega arith) here e

  -- one is moved from the front of a list to the end of those that it is mapped to
  pub mapped_more : (ys : List B) (x : A) (xs all : List A) (y : B) (more : List B) (left : List A) → left ≡ x ∷ xs → y ≡ f x → more ≡ ys ++ y ∷ [] → ys ++ map f left ≡ map f all → more ++ map f xs ≡ map f all
  mapped_more ys x xs all y more left e same pushed was =
      ap (λ (l : List B). l ++ map f xs) pushed ∙ append_assoc ys (y ∷ []) (map f xs) ∙ ap (λ (z : B). ys ++ z ∷ map f xs) same ∙ ap (λ (l : List A). ys ++ map f l) (sym e) ∙ was

-- in a list of one value, it stands at each place
pub same_at : {A : Type 0} (x : A) (n k : ℕ) → slice_index_or (replicate n x) k x ≡ x
same_at x zero k = refl
same_at x (suc n) zero = refl
same_at x (suc n) (suc k) = same_at x n k
