-- The first place whose byte passes a test is what `position` says.
use Rattle.std.proofs.Common.{◌≡◌, ℕ, ◌-◌, ◌<◌, ◌≤◌, Bool, true, false, List, length, get_or, Option, Some, None, position, sym, ◌∙◌, arith, ⊎_elim}
use Rattle.std.proofs.lemmas.Grind.{common_steps}
use Rattle.std.specs.List.{position_or_len}
use Rattle.std.proofs.lemmas.Bool.{false≢true}
use Rattle.std.proofs.lemmas.Bool.{cases_lt}
use Rattle.std.proofs.lemmas.List.Sums.{fails_before_first, passes_at_first}
use Rattle.memchr.specs.Find.{IsFirstByte}

module _ (p : ℕ → Bool) (xs : List ℕ) where
  at_first : (k : ℕ) → k < length xs → ((j : ℕ) → 0 ≤ j → j < k → ¬ (p (get_or xs j 0) ≡ true)) → p (get_or xs k 0) ≡ true → position_or_len p xs ≡ k
  at_first k inside before hit =
      ⊎_elim
      (λ low. absurd (before (position_or_len p xs) (omega arith) low (passes_at_first p xs 0 (omega arith))))
      (λ not_low. ⊎_elim
      (λ high. absurd (false≢true (sym (fails_before_first p xs k 0 high) ∙ hit)))
      (λ not_high. omega arith)
      (cases_lt k (position_or_len p xs)))
      (cases_lt (position_or_len p xs) k)

  pub first_is : (r : Option ℕ) → IsFirstByte p xs r → r ≡ position p xs
  first_is None h =
      let out : length xs ≤ position_or_len p xs = ⊎_elim (λ inside. absurd (h (position_or_len p xs) (omega arith) inside (passes_at_first p xs 0 inside))) (λ out. out) (cases_lt (position_or_len p xs) (length xs)) in
      grind (arith, common_steps)
  first_is (Some k) h =
      let at : position_or_len p xs ≡ k = at_first k h.0.high h.0.before h.1 in
      let inside : position_or_len p xs < length xs = omega arith in
      grind (arith, common_steps)
