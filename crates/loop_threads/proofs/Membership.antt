-- Members and the parts that they were.
use Rattle.std.proofs.Common.{◌≡◌, ℕ, ◌<◌, ◌≤◌, ◌+◌, List, [], ◌∷◌, ◌++◌, length, slice_index_or, subst, sym, ap, ◌∙◌, refl, arith}
use Rattle.std.proofs.lemmas.List.{get_or_at, get_or_default}
use Rattle.loop_rows.proofs.Places.{at_push, longer}

-- the last of a list, where the list it was taken from stands as it was
pub taken_last : {X : Type 0} (orig all rest : List X) (v : X) → all ≡ rest ++ v ∷ [] → slice_index_or all (length rest) v ≡ slice_index_or orig (length rest) v → v ≡ slice_index_or orig (length rest) v
taken_last orig all rest v e same = sym (ap (λ l. slice_index_or l (length rest) v) e ∙ get_or_at rest v [] v (length rest) refl) ∙ same

-- one more comes from the last of those that are left
pub member_more : {X Y : Type 0} (P : X → Y → Type 0) (orig all rest : List X) (done : List Y) (v : X) (r : Y) (n : ℕ) → all ≡ rest ++ v ∷ [] → length all + length done ≡ n → n ≤ length orig → slice_index_or all (length rest) v ≡ slice_index_or orig (length rest) v → P v r
    → ((k j : ℕ) (p : X) (m : Y) → k + j + 1 ≡ n → k < length done → P (slice_index_or orig j p) (slice_index_or done k m))
    → (k j : ℕ) (p : X) (m : Y) → k + j + 1 ≡ n → k < length done + 1 → P (slice_index_or orig j p) (slice_index_or (done ++ r ∷ []) k m)
member_more {X} {Y} P orig all rest done v r n e long few same here was k j p m at lt =
    at_push (λ (i : ℕ) (y : Y). i + j + 1 ≡ n → P (slice_index_or orig j p) y) done (length done) r refl
    (λ now.
    let je : length rest ≡ j = omega (arith, now, long, longer all rest v e) in
    subst (λ (i : ℕ). P (slice_index_or orig i p) r) je
    (subst (λ (x : X). P x r) (taken_last orig all rest v e same ∙ get_or_default orig (length rest) v p (omega (arith, long, few, longer all rest v e))) here))
    k m lt (λ low before. was k j p m before low) at
