-- The first number that passes, and the first of a list.
use Rattle.std.proofs.Common.{◌≡◌, ℕ, zero, suc, ◌+◌, ◌-◌, ◌<◌, ◌≤◌, Bool, true, false, cond, List, [], ◌∷◌, Some, refl, sym, arith}
use Rattle.std.specs.List.{find}
use Rattle.aio_model.specs.Loop.Log.{first_from}

module _ (t : ℕ → Bool) where
  pub first_from-next : (i n : ℕ) → i < n → t i ≡ false → first_from t (i + 1) (n - (i + 1)) ≡ first_from t i (n - i)
  first_from-next i n below fails =
      let e : n - i ≡ suc (n - (i + 1)) = omega arith in
      let next : i + 1 ≡ suc i = omega arith in
      rw (e, fails, next) refl

  some_at : (b : Bool) (start i more : ℕ) → t start ≡ b → cond b (Some start) (first_from t (suc start) more) ≡ Some i → ((first_from t (suc start) more ≡ Some i) → (suc start ≤ i) × (i < suc start + more) × (t i ≡ true)) → (start ≤ i) × (i < start + suc more) × (t i ≡ true)
  some_at true start i more was h next =
      let e : start ≡ i = cc in
      (omega arith, omega arith, rw (sym e) was)
  some_at false start i more was h next =
      let n = next h in
      (omega arith, omega arith, n.2)

  pub first_from-some : (start more i : ℕ) → first_from t start more ≡ Some i → (start ≤ i) × (i < start + more) × (t i ≡ true)
  first_from-some start zero i h = absurd cc
  first_from-some start (suc more) i h =
      some_at (t start) start i more refl h (first_from-some (suc start) more i)

pub first_from-agree : (f g : ℕ → Bool) → ((i : ℕ) → f i ≡ g i) → (start more : ℕ) → first_from f start more ≡ first_from g start more
first_from-agree f g same start zero = refl
first_from-agree f g same start (suc more) =
    rw (same start, first_from-agree f g same (suc start) more) refl

pub find-agree : (f g : ℕ → Bool) → ((i : ℕ) → f i ≡ g i) → (xs : List ℕ) → find f xs ≡ find g xs
find-agree f g same [] = refl
find-agree f g same (x ∷ xs) = rw (same x, find-agree f g same xs) refl
