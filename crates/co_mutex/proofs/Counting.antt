-- How many places pass a test.
use Rattle.std.proofs.Common.{◌≡◌, ℕ, ◌+◌, ◌<◌, ◌≤◌, Bool, true, false, cond, List, [], ◌∷◌, length, set, refl, sym, ap, ◌∙◌, arith, zero, suc}
use mathlib.Core.Option.{some, some-injective, some-ne-none}
use lib.ListN.{get_elem?}
use Rattle.co_mutex.specs.Places.{PassPlace, count}

abbrev pub bit : Bool → ℕ
bit b = cond b 1 0

bit_low : (b : Bool) → bit b ≤ 1
bit_low true = omega arith
bit_low false = omega arith

pub count_set : (test : PassPlace → Bool) (places : List PassPlace) (p : ℕ) (old new : PassPlace) → get_elem? places p ≡ some old → count test (set places p new) + bit (test old) ≡ count test places + bit (test new)
count_set test [] p old new e = absurd (some-ne-none old (sym e))
count_set test (x ∷ xs) zero old new e =
    let same : x ≡ old = some-injective x old e in
    let bits : bit (test x) ≡ bit (test old) = ap (λ y. bit (test y)) same in
    omega (arith, bits)
count_set test (x ∷ xs) (suc p) old new e =
    let rest = count_set test xs p old new e in
    omega (arith, rest)

pub count_low : (test : PassPlace → Bool) (places : List PassPlace) → count test places ≤ length places
count_low test [] = omega arith
count_low test (x ∷ xs) =
    let rest = count_low test xs in
    let low = bit_low (test x) in
    omega (arith, rest, low)

pub count_some : (test : PassPlace → Bool) (places : List PassPlace) → 0 < count test places → (p : ℕ) × (place : PassPlace) × (get_elem? places p ≡ some place) × (test place ≡ true)
count_some test [] low = absurd (omega (arith, low))
count_some test (x ∷ xs) low = by (λ l. count_some test xs l) (test x) refl low
  where
    by : (0 < count test xs → (p : ℕ) × (place : PassPlace) × (get_elem? xs p ≡ some place) × (test place ≡ true)) → (b : Bool) → test x ≡ b → 0 < bit b + count test xs → (p : ℕ) × (place : PassPlace) × (get_elem? (x ∷ xs) p ≡ some place) × (test place ≡ true)
    by more true is l = (0, x, refl, is)
    by more false is l =
        let rest = more (omega (arith, l)) in
        (suc rest.0, rest.1, rest.2, rest.3)

pub count_at : (test : PassPlace → Bool) (places : List PassPlace) (p : ℕ) (place : PassPlace) → get_elem? places p ≡ some place → test place ≡ true → 0 < count test places
count_at test [] p place e is = absurd (some-ne-none place (sym e))
count_at test (x ∷ xs) zero place e is =
    let one : bit (test x) ≡ 1 = ap (λ y. bit (test y)) (some-injective x place e) ∙ ap bit is in
    omega (arith, one)
count_at test (x ∷ xs) (suc p) place e is =
    let rest = count_at test xs p place e is in
    omega (arith, rest)
