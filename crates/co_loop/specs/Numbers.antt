-- The numbers that seats own.
use Rattle.std.specs.Prelude.{ℕ, List, map}
use Rattle.loop_rows.specs.declared.seats.Seats.{Seats}

-- those that are owned on one loop, in each of its tables
pub record LoopNumbers : Type 0 where
  pub first : ℕ
  pub count : ℕ
  pub co_first : ℕ
  pub co_count : ℕ

abbrev pub numbers_at : {C O : Type 0} → Seats C O → LoopNumbers
numbers_at seats =
    record { first = seats.bottoms.known.first; count = seats.bottoms.known.count; co_first = seats.coroutines.known.first; co_count = seats.coroutines.known.count }

-- those of each loop
abbrev pub numbers : {C O : Type 0} → List (Seats C O) → List LoopNumbers
numbers seats = map numbers_at seats
