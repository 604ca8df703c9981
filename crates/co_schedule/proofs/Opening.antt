-- A new table meets the rule, over a history with no entry.
use Rattle.std.proofs.Common.{◌≡◌, Bool, false, ℕ, zero, suc, ◌<◌, Option, None, Some, List, [], ◌∷◌, length, map, replicate, slice_index, refl, arith}
use mathlib.Core.Option.{some}
use lib.ListN.{get_elem?}
use Rattle.atomic_table.specs.Table.{opening}
use Rattle.table_seats.proofs.Opening.{each_alone, seats_alone}
use Rattle.aio_model.specs.Coroutines.History.{seat_of}
use Rattle.co_schedule.specs.Words.{head_at, mark_at, word_count}
use Rattle.co_schedule.specs.Known.{part_of, first_known}
use Rattle.co_schedule.specs.Rule.{Stands}
use Rattle.co_schedule.specs.Slots.{Kept}
use Rattle.co_schedule.specs.Held.{AllOfOrigin}

abbrev pub zeros : ℕ → List ℕ
zeros k = replicate k 0

all_zero : (k i : ℕ) → slice_index (zeros k) i ≡ 0
all_zero zero i = refl
all_zero (suc k) zero = refl
all_zero (suc k) (suc i) = all_zero k i

length-zeros : (k : ℕ) → length (zeros k) ≡ k
length-zeros zero = refl
length-zeros (suc k) = let rest = length-zeros k in omega (arith, rest)

at_home : {A : Type 0} (a : A) (k i : ℕ) → i < k → get_elem? (map some (replicate k a)) i ≡ some (some a)
at_home a zero i low = absurd (omega arith)
at_home a (suc k) zero low = refl
at_home a (suc k) (suc i) low = at_home a k i (omega arith)

pub opening_stands : (n : ℕ) → Stands n [] (zeros (word_count n)) (first_known n ∷ [])
opening_stands n =
    let v = first_known n in
    record {
      long = length-zeros (word_count n);
      legal = tt;
      seats = seats_alone seat_of part_of v refl;
      marks = λ c low. all_zero (word_count n) (mark_at c);
      taken = [];
      stack = [];
      queue = refl;
      chain = all_zero (word_count n) head_at;
      knows = each_alone _ v (record { coroutines_are = λ _. refl; active = λ q. absurd cc; owes = tt; walks = λ own. record { is = refl; rest = []; chain = refl; whole = refl; held = tt } });
    }

pub opening_kept : {P O : Type 0} (given_in : Option P → Bool) (IsOf : ℕ → Option P → Type 0) (n : ℕ) (origin : O) → given_in None ≡ false → AllOfOrigin (Kept given_in IsOf n) origin (opening (zeros (word_count n)) (replicate n None) (record { known = first_known n; origin = Some origin }))
opening_kept given_in IsOf n origin none_given =
    (([], opening_stands n, record { vacant = λ c low free. (None, at_home None n c low, none_given); full = λ id u at own c low s given is. absurd cc }), each_alone _ _ (λ _. refl))
