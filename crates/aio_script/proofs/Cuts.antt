-- A text cut at the first of a byte.
use Rattle.std.proofs.Common.{◌≡◌, ℕ, ◌+◌, ◌-◌, ◌<◌, ◌≤◌, Bool, true, false, ltb, inl, inr, List, [], ◌∷◌, length, take, drop, length-drop, Some, None, refl, sym, ap, ◌∙◌, arith}
use Rattle.std.specs.List.{slice_split, onto_first, position, position_or_len}
use Rattle.std.proofs.lemmas.Bool.{cases_Bool, ltb-true, ltb-false}
use Rattle.std.proofs.lemmas.List.{take_all}
use Rattle.std.proofs.lemmas.List.Splits.{slice_split_first, slice_split-cons_no}
use Rattle.std.proofs.lemmas.Option.{cond_some, none-some}

pub split-found : (p : ℕ → Bool) (xs : List ℕ) (at : ℕ) → position p xs ≡ Some at
    → slice_split p xs ≡ take at xs ∷ slice_split p (take (length xs - (at + 1)) (drop (at + 1) xs))
split-found p xs at found =
    let parts = cond_some _ _ _ found in
    let within : position_or_len p xs < length xs = ltb-true _ _ parts.0 in
    let short : length (drop (at + 1) xs) ≤ length xs - (at + 1) = omega (arith, length-drop (at + 1) xs) in
    slice_split_first p xs 0 within
    ∙ ap (λ (n : ℕ). take n xs ∷ slice_split p (drop (n + 1) xs)) parts.1
    ∙ ap (λ (rest : List ℕ). take at xs ∷ slice_split p rest) (sym (take_all (length xs - (at + 1)) (drop (at + 1) xs) short))

split_past : (p : ℕ → Bool) (xs : List ℕ) → length xs ≤ position_or_len p xs → slice_split p xs ≡ xs ∷ []
split_past p [] past = refl
split_past p (x ∷ xs) past = elim (cases_Bool (p x)) [
  | inl hit ↦ absurd (past_hit p x xs hit past)
  | inr miss ↦ slice_split-cons_no p x xs miss ∙ ap (onto_first x) (split_past p xs (past_miss p x xs miss past))
]
  where
    past_hit : (p : ℕ → Bool) (x : ℕ) (xs : List ℕ) → p x ≡ true → length (x ∷ xs) ≤ position_or_len p (x ∷ xs) → ⊥
    past_hit p x xs hit past = let h = rw hit at past in omega arith

    past_miss : (p : ℕ → Bool) (x : ℕ) (xs : List ℕ) → p x ≡ false → length (x ∷ xs) ≤ position_or_len p (x ∷ xs) → length xs ≤ position_or_len p xs
    past_miss p x xs miss past = let h = rw miss at past in omega arith

pub split-not_found : (p : ℕ → Bool) (xs : List ℕ) → position p xs ≡ None → slice_split p xs ≡ xs ∷ []
split-not_found p xs none = elim (cases_Bool (ltb (position_or_len p xs) (length xs))) [
  | inl hit ↦ absurd (none-some _ (sym (found_not p xs hit none)))
  | inr miss ↦ split_past p xs (ltb-false _ _ miss)
]
  where
    found_not : (p : ℕ → Bool) (xs : List ℕ) → ltb (position_or_len p xs) (length xs) ≡ true → position p xs ≡ None → Some (position_or_len p xs) ≡ None
    found_not p xs hit none = rw hit at none
