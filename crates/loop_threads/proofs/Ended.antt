-- Loops, as they are ended one after another.
use Rattle.std.proofs.Common.{◌≡◌, ℕ, ◌<◌, ◌+◌, List, [], ◌∷◌, ◌++◌, length, slice_index_or, subst, sym, ap, ◌∙◌, arith}
use Rattle.std.proofs.lemmas.Bool.{cases_eq}
use Rattle.std.proofs.lemmas.List.{get_or_at, get_or_append_left}
use mathlib.Core.Logic.{⊎_elim}
use Rattle.loop_rows.proofs.Places.{at_last, at_front}

-- a fact of each four of four lists, as each gets one more
pub four_pushed : {X Y Z V : Type 0} (P : X → Y → Z → V → Type 0) (xs xr : List X) (ys yr : List Y) (zs zr : List Z) (vs vr : List V) (x : X) (y : Y) (z : Z) (v : V) (n : ℕ) → xs ≡ xr ++ x ∷ [] → ys ≡ yr ++ y ∷ [] → zs ≡ zr ++ z ∷ [] → vs ≡ vr ++ v ∷ []
    → length xr ≡ n → length yr ≡ n → length zr ≡ n → length vr ≡ n
    → ((k : ℕ) (a : X) (b : Y) (c : Z) (d : V) → k < n → P (slice_index_or xr k a) (slice_index_or yr k b) (slice_index_or zr k c) (slice_index_or vr k d)) → P x y z v
    → (k : ℕ) (a : X) (b : Y) (c : Z) (d : V) → k < n + 1 → P (slice_index_or xs k a) (slice_index_or ys k b) (slice_index_or zs k c) (slice_index_or vs k d)
four_pushed {X} {Y} {Z} {V} P xs xr ys yr zs zr vs vr x y z v n ex ey ez ev lx ly lz lv was here k a b c d lt =
    ⊎_elim
    (λ (e : k ≡ n).
    let px : slice_index_or xs k a ≡ x = ap (λ l. slice_index_or l k a) ex ∙ get_or_at xr x [] a k (omega (arith, e, lx)) in
    let py : slice_index_or ys k b ≡ y = ap (λ l. slice_index_or l k b) ey ∙ get_or_at yr y [] b k (omega (arith, e, ly)) in
    let pz : slice_index_or zs k c ≡ z = ap (λ l. slice_index_or l k c) ez ∙ get_or_at zr z [] c k (omega (arith, e, lz)) in
    let pv : slice_index_or vs k d ≡ v = ap (λ l. slice_index_or l k d) ev ∙ get_or_at vr v [] d k (omega (arith, e, lv)) in
    subst (λ (u : X). P u (slice_index_or ys k b) (slice_index_or zs k c) (slice_index_or vs k d)) (sym px)
    (subst (λ (u : Y). P x u (slice_index_or zs k c) (slice_index_or vs k d)) (sym py)
    (subst (λ (u : Z). P x y u (slice_index_or vs k d)) (sym pz) (subst (P x y z) (sym pv) here))))
    (λ (ne : k ≡ n → ⊥).
    let low : k < n = grind (arith, lt, ne) in
    let px : slice_index_or xs k a ≡ slice_index_or xr k a = ap (λ l. slice_index_or l k a) ex ∙ get_or_append_left xr (x ∷ []) a k (omega (arith, low, lx)) in
    let py : slice_index_or ys k b ≡ slice_index_or yr k b = ap (λ l. slice_index_or l k b) ey ∙ get_or_append_left yr (y ∷ []) b k (omega (arith, low, ly)) in
    let pz : slice_index_or zs k c ≡ slice_index_or zr k c = ap (λ l. slice_index_or l k c) ez ∙ get_or_append_left zr (z ∷ []) c k (omega (arith, low, lz)) in
    let pv : slice_index_or vs k d ≡ slice_index_or vr k d = ap (λ l. slice_index_or l k d) ev ∙ get_or_append_left vr (v ∷ []) d k (omega (arith, low, lv)) in
    subst (λ (u : X). P u (slice_index_or ys k b) (slice_index_or zs k c) (slice_index_or vs k d)) (sym px)
    (subst (λ (u : Y). P (slice_index_or xr k a) u (slice_index_or zs k c) (slice_index_or vs k d)) (sym py)
    (subst (λ (u : Z). P (slice_index_or xr k a) (slice_index_or yr k b) u (slice_index_or vs k d)) (sym pz)
    (subst (P (slice_index_or xr k a) (slice_index_or yr k b) (slice_index_or zr k c)) (sym pv) (was k a b c d low)))))
    (cases_eq k n)

-- a fact of each two of two lists, as the last of each is taken
pub two_popped : {X Y : Type 0} (P : X → Y → Type 0) (xs xr : List X) (ys yr : List Y) (x : X) (y : Y) (n : ℕ) → xs ≡ xr ++ x ∷ [] → ys ≡ yr ++ y ∷ [] → length xr ≡ n → length yr ≡ n → ((k : ℕ) (a : X) (b : Y) → k < n + 1 → P (slice_index_or xs k a) (slice_index_or ys k b))
    → ((k : ℕ) (a : X) (b : Y) → k < n → P (slice_index_or xr k a) (slice_index_or yr k b)) × P x y
two_popped {X} {Y} P xs xr ys yr x y n ex ey lx ly was = (
  (λ k a b lt. at_front (λ (j : ℕ) (u : Y). P (slice_index_or xr k a) u) ys yr y ey k b (omega (arith, lt, ly))
      (at_front (λ (j : ℕ) (u : X). P u (slice_index_or ys k b)) xs xr x ex k a (omega (arith, lt, lx)) (was k a b (omega (arith, lt))))),
  at_last (λ (j : ℕ) (u : Y). P x u) ys yr n y ey ly (at_last (λ (j : ℕ) (u : X). P u (slice_index_or ys n y)) xs xr n x ex lx (was n x y (omega arith))),
)
