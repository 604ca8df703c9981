-- Facts of each place of a list, as one place changes and as the last comes or goes.
use Rattle.std.proofs.Common.{◌≡◌, ℕ, ◌<◌, ◌+◌, List, [], ◌∷◌, ◌++◌, length, slice_index_or, slice_set, subst, sym, ap, ◌∙◌, arith, length-append}
use Rattle.std.proofs.lemmas.Bool.{cases_eq}
use Rattle.std.proofs.lemmas.List.{get_or-set_same, get_or-set_other, get_or_append_left, get_or_at, get_or_default}
use mathlib.Core.Logic.{⊎_elim}

-- what holds of each place but one, and of what is put there
pub at_set : {X : Type 0} (P : ℕ → X → Type 0) (xs : List X) (i : ℕ) (v : X) → i < length xs → P i v → (k : ℕ) (d : X) → ((k ≡ i → ⊥) → P k (slice_index_or xs k d)) → P k (slice_index_or (slice_set xs i v) k d)
at_set {X} P xs i v lt here k d there =
    ⊎_elim (λ (e : k ≡ i). subst (λ (j : ℕ). P j (slice_index_or (slice_set xs i v) j d)) (sym e) (subst (P i) (sym (get_or-set_same xs i v d lt)) here))
    (λ (ne : k ≡ i → ⊥). subst (P k) (sym (get_or-set_other xs i k v d ne)) (there ne)) (cases_eq k i)

-- the same for one more at the end
pub at_push : {X : Type 0} (P : ℕ → X → Type 0) (xs : List X) (n : ℕ) (v : X) → length xs ≡ n → P n v → (k : ℕ) (d : X) → k < n + 1 → (k < n → P k (slice_index_or xs k d)) → P k (slice_index_or (xs ++ v ∷ []) k d)
at_push {X} P xs n v long here k d lt there =
    ⊎_elim (λ (e : k ≡ n). subst (λ (j : ℕ). P j (slice_index_or (xs ++ v ∷ []) j d)) (sym e) (subst (P n) (sym (get_or_at xs v [] d n long)) here))
    (λ (ne : k ≡ n → ⊥). let low : k < n = grind (arith, lt, ne) in subst (P k) (sym (get_or_append_left xs (v ∷ []) d k (omega arith))) (there low)) (cases_eq k n)

-- one is set, and one comes to another list
pub at_both : {X Y : Type 0} (P : ℕ → X → Y → Type 0) (xs : List X) (ys : List Y) (n : ℕ) (v : X) (w : Y) → length ys ≡ n → n < length xs → P n v w
    → (k : ℕ) (d : X) (e : Y) → k < n + 1 → (k < n → P k (slice_index_or xs k d) (slice_index_or ys k e)) → P k (slice_index_or (slice_set xs n v) k d) (slice_index_or (ys ++ w ∷ []) k e)
at_both {X} {Y} P xs ys n v w long lt here k d e below there =
    ⊎_elim (λ (same : k ≡ n).
    subst (λ (j : ℕ). P j (slice_index_or (slice_set xs n v) j d) (slice_index_or (ys ++ w ∷ []) j e)) (sym same)
    (subst (λ (x : X). P n x (slice_index_or (ys ++ w ∷ []) n e)) (sym (get_or-set_same xs n v d lt))
    (subst (P n v) (sym (get_or_at ys w [] e n long)) here)))
    (λ (ne : k ≡ n → ⊥).
    let low : k < n = grind (arith, below, ne) in
    subst (λ (x : X). P k x (slice_index_or (ys ++ w ∷ []) k e)) (sym (get_or-set_other xs n k v d ne))
    (subst (P k (slice_index_or xs k d)) (sym (get_or_append_left ys (w ∷ []) e k (omega arith))) (there low)))
    (cases_eq k n)

-- the last of a list
pub at_last : {X : Type 0} (P : ℕ → X → Type 0) (all xs : List X) (n : ℕ) (v : X) → all ≡ xs ++ v ∷ [] → length xs ≡ n → P n (slice_index_or all n v) → P n v
at_last P all xs n v e long h = subst (P n) (ap (λ l. slice_index_or l n v) e ∙ get_or_at xs v [] v n long) h

-- and those before it
pub at_front : {X : Type 0} (P : ℕ → X → Type 0) (all xs : List X) (v : X) → all ≡ xs ++ v ∷ [] → (k : ℕ) (d : X) → k < length xs → P k (slice_index_or all k d) → P k (slice_index_or xs k d)
at_front P all xs v e k d lt h = subst (P k) (ap (λ l. slice_index_or l k d) e ∙ get_or_append_left xs (v ∷ []) d k lt) h

pub longer : {X : Type 0} (all xs : List X) (v : X) → all ≡ xs ++ v ∷ [] → length all ≡ length xs + 1
longer all xs v e = ap length e ∙ length-append xs (v ∷ [])

-- a fact of two items as they were read, at any default
pub of_read : {X Y : Type 0} (P : X → Y → Type 0) (xs : List X) (ys : List Y) (k : ℕ) (x : X) (y : Y) → k < length xs → k < length ys → x ≡ slice_index_or xs k x → y ≡ slice_index_or ys k y → P x y
    → (d : X) (e : Y) → P (slice_index_or xs k d) (slice_index_or ys k e)
of_read {X} {Y} P xs ys k x y lx ly at also h d e =
    subst (λ (a : X). P a (slice_index_or ys k e)) (at ∙ get_or_default xs k x d lx) (subst (P x) (also ∙ get_or_default ys k y e ly) h)

-- and as it is read
pub as_read : {X Y : Type 0} (P : X → Y → Type 0) (xs : List X) (ys : List Y) (k : ℕ) (x : X) (y : Y) → x ≡ slice_index_or xs k x → y ≡ slice_index_or ys k y → P (slice_index_or xs k x) (slice_index_or ys k y) → P x y
as_read {X} {Y} P xs ys k x y at also h = subst (λ (a : X). P a y) (sym at) (subst (P (slice_index_or xs k x)) (sym also) h)

-- a fact of each pair of two lists, as both grow
pub both_pushed : {X Y : Type 0} (P : X → Y → Type 0) (xs : List X) (ys : List Y) (n : ℕ) (x : X) (y : Y) → length xs ≡ n → length ys ≡ n → ((k : ℕ) (a : X) (b : Y) → k < n → P (slice_index_or xs k a) (slice_index_or ys k b)) → P x y
    → (k : ℕ) (a : X) (b : Y) → k < n + 1 → P (slice_index_or (xs ++ x ∷ []) k a) (slice_index_or (ys ++ y ∷ []) k b)
both_pushed {X} {Y} P xs ys n x y long also was here k a b h =
    at_push (λ (j : ℕ) (v : Y). P (slice_index_or (xs ++ x ∷ []) j a) v) ys n y also (subst (λ (u : X). P u y) (sym (get_or_at xs x [] a n long)) here) k b h
    (λ lt. subst (λ (u : X). P u (slice_index_or ys k b)) (sym (get_or_append_left xs (x ∷ []) a k (omega (arith, lt, long)))) (was k a b lt))

-- an item of a list that has some
pub some_of : {X : Type 0} (xs : List X) (n : ℕ) → n < length xs → X
some_of [] n lt = absurd (omega (arith, lt))
some_of (x ∷ xs) n lt = x
