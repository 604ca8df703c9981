-- The lots in rising order.
use Rattle.std.proofs.Common.{◌≡◌, ℕ, zero, suc, ◌+◌, ◌-◌, ◌<◌, ◌≤◌, ⊎_elim, [], ◌∷◌, ◌++◌, length, sym, refl, ap, ◌∙◌, subst, Contains, arith}
use Rattle.std.proofs.lemmas.List.{length-append}
use Rattle.std.proofs.lemmas.Bool.{cases_lt}
use Rattle.std.proofs.lemmas.List.Elements.{Contains-append_left, Contains-push, Contains-push_cases}
use Rattle.lot_pool.specs.Pools.{indices_from}

-- so many
pub length_indices : (first count : ℕ) → length (indices_from first count) ≡ count
length_indices first zero = refl
length_indices first (suc count) =
    let l = length_indices first count in let a = length-append (indices_from first count) ((first + count) ∷ []) in omega (l, a, arith)

-- one more
pub grown : (first next : ℕ) → first ≤ next → indices_from first (next - first) ++ next ∷ [] ≡ indices_from first (next + 1 - first)
grown first next low =
    let e : next + 1 - first ≡ suc (next - first) = omega arith in let n : first + (next - first) ≡ next = omega arith in
    ap (λ x. indices_from first (next - first) ++ x ∷ []) (sym n) ∙ ap (indices_from first) (sym e)

none_there : (x : ℕ) → Contains [] x → ⊥
none_there x h = let l = h.1 in omega arith

-- each lies between
pub within : (first count x : ℕ) → Contains (indices_from first count) x → (first ≤ x) × (x < first + count)
within first zero x h = absurd (none_there x h)
within first (suc count) x h =
    ⊎_elim (λ c. let w = within first count x c in let low = w.0 in let high = w.1 in (low, omega arith)) (λ (e : first + count ≡ x). (omega arith, omega arith)) (Contains-push_cases (indices_from first count) (first + count) x h)

-- each that lies between is there
pub has : (first count x : ℕ) → first ≤ x → x < first + count → Contains (indices_from first count) x
has first zero x low high = absurd (omega arith)
has first (suc count) x low high =
    ⊎_elim (λ (below : x < first + count). Contains-append_left (indices_from first count) ((first + count) ∷ []) x (has first count x low below))
    (λ (last : first + count ≤ x). let e : first + count ≡ x = omega arith in let P : ℕ → Type 0 = Contains (indices_from first (suc count)) in subst P e (Contains-push (indices_from first count) (first + count))) (cases_lt x (first + count))
