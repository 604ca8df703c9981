-- No path is longer than a number has bits, and one.
use Rattle.std.proofs.Common.{◌≡◌, ◌≢◌, ℕ, zero, suc, ◌+◌, ◌*◌, ◌/◌, ◌%◌, ◌<◌, ◌≤◌, Bool, true, false, nat_eq, ◌||◌, refl, ap, arith}
use Rattle.std.proofs.lemmas.Bool.{eqb-true}
use Rattle.co_state.specs.declared.tree.Entry.{Entry}
use Rattle.co_state.specs.Lookup.{Shape, Bare, At, turns_zero, is_in, IsSorted, depth_of, AreSmall}
use Rattle.co_state.proofs.Trees.{or_first, or_second, root_is_in, differ_by}

abbrev two_to : ℕ → ℕ
two_to zero = 1
two_to (suc n) = 2 * two_to n

odd : (a : ℕ) → turns_zero a ≡ false → a % 2 ≡ 1
odd a is =
    let not : a % 2 ≢ 0 = differ_by (a % 2) 0 is in
    omega (arith, not)

-- a number is known by its half and its lowest bit
halves : (a b : ℕ) (side : Bool) → a / 2 ≡ b / 2 → turns_zero a ≡ side → turns_zero b ≡ side → a ≡ b
halves a b true same p q = let x = eqb-true (a % 2) 0 p in let y = eqb-true (b % 2) 0 q in omega (arith, same, x, y)
halves a b false same p q = let x = odd a p in let y = odd b q in omega (arith, same, x, y)

half_below : (a n : ℕ) → a < 2 * n → a / 2 < n
half_below a n lt = omega (arith, lt)

-- so many bits are left, and they tell the numbers apart
record Reads (at : ℕ → ℕ) (n : ℕ) (t : Shape) : Type 0 where
  below : (q : ℕ) → is_in q t ≡ true → at q < two_to n
  apart : (p q : ℕ) → is_in p t ≡ true → is_in q t ≡ true → at p ≡ at q → p ≡ q

nobody : (t : Shape) → ((q : ℕ) → is_in q t ≡ true → ⊥) → depth_of t ≡ 0
nobody Bare none = refl
nobody (At e z o) none = absurd (none e.id (root_is_in e z o))

in_zero : (e : Entry) (z o : Shape) (q : ℕ) → is_in q z ≡ true → is_in q (At e z o) ≡ true
in_zero e z o q there = or_second (nat_eq e.id q) (is_in q z || is_in q o) (or_first (is_in q z) (is_in q o) there)

in_one : (e : Entry) (z o : Shape) (q : ℕ) → is_in q o ≡ true → is_in q (At e z o) ≡ true
in_one e z o q there = or_second (nat_eq e.id q) (is_in q z || is_in q o) (or_second (is_in q z) (is_in q o) there)

-- one side of a fork has a bit less
side_reads : (at : ℕ → ℕ) (n : ℕ) (t s : Shape) (side : Bool) → Reads at (suc n) t → ((q : ℕ) → is_in q s ≡ true → is_in q t ≡ true) → ((q : ℕ) → is_in q s ≡ true → turns_zero (at q) ≡ side) → Reads (λ q. at q / 2) n s
side_reads at n t s side reads within turn = record {
  below = λ q there. half_below (at q) (two_to n) (reads.below q (within q there));
  apart = λ p q here there same. reads.apart p q (within p here) (within q there) (halves (at p) (at q) side same (turn p here) (turn q there));
}

-- with no bit left all are one number
one_number : (at : ℕ → ℕ) (e : Entry) (t s : Shape) → Reads at 0 t → is_in e.id t ≡ true → ((q : ℕ) → is_in q s ≡ true → is_in q t ≡ true) → is_in e.id s ≡ false → (q : ℕ) → is_in q s ≡ true → ⊥
one_number at e t s reads root within not q there =
    let a = reads.below q (within q there) in
    let b = reads.below e.id root in
    let same : q ≡ e.id = reads.apart q e.id (within q there) root (omega (arith, a, b)) in
    absurd (cc (ap (λ n. is_in n s) same, there, not))

depth_le : (n : ℕ) (t : Shape) (at : ℕ → ℕ) → IsSorted at t → Reads at n t → depth_of t ≤ n + 1
depth_le n Bare at sorted reads = omega arith
depth_le zero (At e z o) at sorted reads =
    let t = At e z o in
    let root = root_is_in e z o in
    let no_zero = nobody z (one_number at e t z reads root (in_zero e z o) sorted.0.not_zero) in
    let no_one = nobody o (one_number at e t o reads root (in_one e z o) sorted.0.not_one) in
    omega (arith, no_zero, no_one)
depth_le (suc n) (At e z o) at sorted reads =
    let t = At e z o in
    let below_zero = depth_le n z (λ q. at q / 2) sorted.1 (side_reads at n t z true reads (in_zero e z o) sorted.0.zeros) in
    let below_one = depth_le n o (λ q. at q / 2) sorted.2 (side_reads at n t o false reads (in_one e z o) sorted.0.ones) in
    omega (arith, below_zero, below_one)

pub is_shallow : (t : Shape) → IsSorted (λ q. q) t → AreSmall t → depth_of t ≤ 33
is_shallow t sorted below = depth_le 32 t (λ q. q) sorted (record { below = below; apart = λ p q here there same. same })
