-- Rows of two numbers, as they are cut and joined.
use Rattle.std.proofs.Common.{◌≡◌, ℕ, zero, suc, ◌<◌, ◌≤◌, ◌-◌, ◌*◌, Vec, vec_len, vec_capacity, List, [], ◌∷◌, ◌++◌, length, slice_index_or, subst, sym, refl, arith}
use Rattle.loop_rows.specs.declared.shared.LoopShared.{LoopShared}
use Rattle.loop_rows.specs.declared.seats.Seats.{Seats}
use Rattle.loop_rows.specs.declared.rows.Row.{Row}
use Rattle.loop_rows.specs.Rows.{IsRow, HasNumbers}
use Rattle.loop_threads.specs.Dealing.{IsDoubled, ArePairs, AreSpares}
use Rattle.loop_rows.proofs.Places.{at_push, at_last, at_front, longer}

-- what is doubled at least once has a half, which is doubled once less
pub record Halves (times count : ℕ) : Type 0 where
  pub half : ℕ
  pub is : count ≡ 2 * half
  pub doubled : IsDoubled (times - 1) half

pub halved : (times count : ℕ) → 0 < times → IsDoubled times count → Halves times count
halved zero count some doubled = absurd (omega (arith, some))
halved (suc times) count some doubled =
    record { half = doubled.0; is = doubled.2; doubled = subst (λ (n : ℕ). IsDoubled n doubled.0) (omega arith) doubled.1 }

pub some_doubled : (times count : ℕ) → IsDoubled times count → 2 ≤ count
some_doubled zero count doubled = omega (arith, doubled)
some_doubled (suc times) count doubled =
    let half = some_doubled times doubled.0 doubled.1 in omega (arith, half, doubled.2)

pub not_doubled : (times count : ℕ) → times ≡ 0 → IsDoubled times count → count ≡ 2
not_doubled times count e doubled = subst (λ (n : ℕ). IsDoubled n count) e doubled

-- one more row at the end
pub pairs_pushed : {C O : Type 0} (shared : List (LoopShared C O)) (all pairs : List (Row C O)) (row : Row C O) → all ≡ pairs ++ row ∷ [] → ArePairs shared pairs → IsRow shared row → HasNumbers (2 * length pairs) 2 row → ArePairs shared all
pairs_pushed {C} {O} shared all pairs row e was is has k r lt =
    subst (λ (l : List (Row C O)). IsRow shared (slice_index_or l k r) × HasNumbers (2 * k) 2 (slice_index_or l k r)) (sym e)
    (at_push (λ (j : ℕ) (x : Row C O). IsRow shared x × HasNumbers (2 * j) 2 x) pairs (length pairs) row refl (is, has) k r (omega (arith, lt, longer all pairs row e)) (λ low. was k r low))

-- and the last one taken
pub pairs_popped : {C O : Type 0} (shared : List (LoopShared C O)) (all pairs : List (Row C O)) (row : Row C O) → all ≡ pairs ++ row ∷ [] → ArePairs shared all → ArePairs shared pairs × (IsRow shared row × HasNumbers (2 * length pairs) 2 row)
pairs_popped {C} {O} shared all pairs row e was =
    let n = longer all pairs row e in (
      (λ k r lt. at_front (λ (j : ℕ) (x : Row C O). IsRow shared x × HasNumbers (2 * j) 2 x) all pairs row e k r lt (was k r (omega (arith, lt, n)))),
      at_last (λ (j : ℕ) (x : Row C O). IsRow shared x × HasNumbers (2 * j) 2 x) all pairs (length pairs) row e refl (was (length pairs) row (omega (arith, n))),
    )

-- and the last of the spares
pub spares_popped : {C O Z : Type 0} (loops : ℕ) (all rest : List (Vec (Seats C O) Z)) (v : Vec (Seats C O) Z) → all ≡ rest ++ v ∷ [] → AreSpares loops all → AreSpares loops rest
spares_popped {C} {O} {Z} loops all rest v e was k x lt =
    at_front (λ (j : ℕ) (y : Vec (Seats C O) Z). (vec_len y ≡ 0) × (loops ≤ vec_capacity y)) all rest v e k x lt (was k x (omega (arith, lt, longer all rest v e)))
