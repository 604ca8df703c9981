-- Lists by place.
use Rattle.std.proofs.Common.{◌≡◌, ◌≢◌, ℕ, zero, suc, ◌<◌, ◌⊎◌, inl, inr, sum, List, [], ◌∷◌, ◌++◌, length, map, set, get_or, slice_index, refl, sym, ap, subst, arith}
use Rattle.std.proofs.lemmas.List.Sums.{sum_by-cons}
use mathlib.Core.Option.{some, some-ne-none, some-injective}
use lib.ListN.{get_elem?}
use Rattle.co_mutex.specs.Closing.{In}
use Rattle.stream_ends.specs.Starts.{AllAt}

module _ {A : Type 0} where
  -- what stands at a place below the end
  pub at_below : (xs : List A) (k : ℕ) → k < length xs → (x : A) × (get_elem? xs k ≡ some x)
  at_below [] k below = absurd (omega arith)
  at_below (x ∷ xs) zero below = (x, refl)
  at_below (x ∷ xs) (suc k) below = at_below xs k (omega arith)

  pub below_at : (xs : List A) (k : ℕ) (x : A) → get_elem? xs k ≡ some x → k < length xs
  below_at [] k x at = absurd (some-ne-none x (sym at))
  below_at (y ∷ xs) zero x at = omega arith
  below_at (y ∷ xs) (suc k) x at = omega (arith, below_at xs k x at)

  pub in_left : (xs ys : List A) (k : ℕ) (x : A) → get_elem? xs k ≡ some x → get_elem? (xs ++ ys) k ≡ some x
  in_left [] ys k x at = absurd (some-ne-none x (sym at))
  in_left (y ∷ xs) ys zero x at = at
  in_left (y ∷ xs) ys (suc k) x at = in_left xs ys k x at

  pub in_right : (xs ys : List A) (x : A) → In x ys → In x (xs ++ ys)
  in_right [] ys x here = here
  in_right (y ∷ xs) ys x here = let more = in_right xs ys x here in (suc more.0, more.1)

  pub in_either : (xs ys : List A) (x : A) → In x (xs ++ ys) → In x xs ⊎ In x ys
  in_either [] ys x here = inr here
  in_either (y ∷ xs) ys x (zero, at) = inl (0, at)
  in_either (y ∷ xs) ys x (suc k, at) = elim (in_either xs ys x (k, at)) [
    | inl here ↦ inl (suc here.0, here.1)
    | inr here ↦ inr here
  ]

  -- a fact of each place, as the first item goes
  pub all_first : (F : ℕ → A → Type 0) (x : A) (xs : List A) → AllAt F (x ∷ xs) → F 0 x
  all_first F x xs each = each 0 x refl

  pub all_rest : (F : ℕ → A → Type 0) (x : A) (xs : List A) → AllAt F (x ∷ xs) → AllAt (λ k. F (suc k)) xs
  all_rest F x xs each k y at = each (suc k) y at

  pub all_none : (F : ℕ → A → Type 0) → AllAt F []
  all_none F k x at = absurd (some-ne-none x (sym at))

  -- and as one comes last
  pub all_push : (F : ℕ → A → Type 0) (xs : List A) (x : A) → AllAt F xs → F (length xs) x → AllAt F (xs ++ x ∷ [])
  all_push F [] x each last zero y at = subst (F 0) (some-injective x y at) last
  all_push F [] x each last (suc k) y at = absurd (some-ne-none y (sym at))
  all_push F (z ∷ xs) x each last zero y at = each 0 y at
  all_push F (z ∷ xs) x each last (suc k) y at =
      all_push (λ n. F (suc n)) xs x (all_rest F z xs each) last k y at

  -- and as one is set
  pub all_set : (F G : ℕ → A → Type 0) (xs : List A) (i : ℕ) (y : A) → ((k : ℕ) (x : A) → k ≢ i → F k x → G k x) → G i y → AllAt F xs → AllAt G (set xs i y)
  all_set F G [] i y step last each k x at = absurd (some-ne-none x (sym at))
  all_set F G (z ∷ xs) zero y step last each zero x at = subst (G 0) (some-injective y x at) last
  all_set F G (z ∷ xs) zero y step last each (suc k) x at = step (suc k) x (λ e. absurd (omega (arith, e))) (each (suc k) x at)
  all_set F G (z ∷ xs) (suc i) y step last each zero x at = step 0 x (λ e. absurd (omega (arith, e))) (each 0 x at)
  all_set F G (z ∷ xs) (suc i) y step last each (suc k) x at =
      all_set (λ n. F (suc n)) (λ n. G (suc n)) xs i y (λ n w ne. step (suc n) w (λ e. ne (omega (arith, e)))) last (all_rest F z xs each) k x at

  pub at_read : (xs : List A) (i : ℕ) (x : A) → i < length xs → x ≡ get_or xs i x → get_elem? xs i ≡ some x
  at_read [] i x below is = absurd (omega (arith, below))
  at_read (y ∷ xs) zero x below is = ap (λ (a : A). some a) (sym is)
  at_read (y ∷ xs) (suc i) x below is = at_read xs i x (omega (arith, below)) is

  module _ {B : Type 0} (f : A → B) where
    pub at_mapped : (xs : List A) (k : ℕ) (x : A) → get_elem? xs k ≡ some x → get_elem? (map f xs) k ≡ some (f x)
    at_mapped [] k x at = absurd (some-ne-none x (sym at))
    at_mapped (y ∷ xs) zero x at = ap (λ (a : A). some (f a)) (some-injective y x at)
    at_mapped (y ∷ xs) (suc k) x at = at_mapped xs k x at

    pub from_mapped : (xs : List A) (k : ℕ) (b : B) → get_elem? (map f xs) k ≡ some b → (x : A) × (get_elem? xs k ≡ some x) × (b ≡ f x)
    from_mapped [] k b at = absurd (some-ne-none b (sym at))
    from_mapped (y ∷ xs) zero b at = (y, refl, sym (some-injective (f y) b at))
    from_mapped (y ∷ xs) (suc k) b at = from_mapped xs k b at

    pub read_mapped : (xs : List A) (k : ℕ) (x : A) (d : B) → get_elem? xs k ≡ some x → get_or (map f xs) k d ≡ f x
    read_mapped [] k x d at = absurd (some-ne-none x (sym at))
    read_mapped (y ∷ xs) zero x d at = ap f (some-injective y x at)
    read_mapped (y ∷ xs) (suc k) x d at = read_mapped xs k x d at

-- a function of each number of a list
pub index_mapped : (f : ℕ → ℕ) (xs : List ℕ) (k : ℕ) → k < length xs → slice_index (map f xs) k ≡ f (slice_index xs k)
index_mapped f [] k below = absurd (omega arith)
index_mapped f (x ∷ xs) zero below = refl
index_mapped f (x ∷ xs) (suc k) below = index_mapped f xs k (omega arith)

-- where each number is the one at its place, the sum is the sum
pub same_sum : (xs ys : List ℕ) → length xs ≡ length ys → ((k : ℕ) → k < length ys → slice_index xs k ≡ slice_index ys k) → sum xs ≡ sum ys
same_sum [] [] same each = refl
same_sum [] (y ∷ ys) same each = cc
same_sum (x ∷ xs) [] same each = cc
same_sum (x ∷ xs) (y ∷ ys) same each =
    let first : x ≡ y = each 0 (omega arith) in
    let rest : sum xs ≡ sum ys = same_sum xs ys (omega (arith, same)) (λ k below. each (suc k) (omega arith)) in
    omega (arith, sum_by-cons (λ n. n) x xs, sum_by-cons (λ n. n) y ys, first, rest)
