-- One loop between two turns.
use Rattle.std.specs.Prelude.{◌≡◌, ℕ, ◌<◌, List, length, slice_index_or, IsFalse}
use Rattle.lot_pool.specs.Pools.{PoolState, PassState}
use Rattle.aio_core.specs.Calls.{TableState, SeatState}
use Rattle.aio_bh.specs.OneShots.{ServesHome}
use Rattle.aio_loop.specs.declared.side.Side.{Side}
use Rattle.aio_loop.specs.Homes.{IsHomeFree}
use Rattle.co_schedule.specs.Calls.{SeatState as CoSeatState, IsSeatOf as IsCoSeatOf}
use Rattle.loop_rows.specs.declared.shared.LoopShared.{LoopShared}
use Rattle.loop_rows.specs.declared.rows.Row.{Row}
use Rattle.loop_rows.specs.Rows.{IsRow}

-- the loop's number, its home's seats, what is home's alone, and the row of its thread
pub record LoopState (C O : Type 0) : Type 0 where
  pub number : ℕ
  pub home : SeatState
  pub side : Side
  pub lots : PassState
  pub coroutines : CoSeatState O
  pub row : Row C O

abbrev pub at_loop : {C O : Type 0} → ℕ → SeatState → Side → PassState → CoSeatState O → Row C O → LoopState C O
at_loop number home side lots coroutines row =
    record { number = number; home = home; side = side; lots = lots; coroutines = coroutines; row = row }

-- The homes are those of the loop of this number, between two turns; the pass is its pool's; the row is one of all tables.
pub record IsStation {C O : Type 0} (shared : List (LoopShared C O)) (loop : LoopState C O) : Type 0 where
  pub within : loop.number < length shared
  pub home : (t : LoopShared C O) → IsHomeFree (slice_index_or shared loop.number t).bottoms loop.home
  pub walking : IsFalse loop.side.handlers.walking
  pub lots : (t : LoopShared C O) → ServesHome (slice_index_or shared loop.number t).bottoms.sizes (slice_index_or shared loop.number t).pool loop.lots
  pub coroutines : (t : LoopShared C O) → IsCoSeatOf (slice_index_or shared loop.number t).coroutines loop.coroutines
  pub row : IsRow shared loop.row

-- table and pool are those of the loop of this number
pub record TurnsOn {C O : Type 0} (shared : List (LoopShared C O)) (number : ℕ) (table : TableState) (pool : PoolState) : Type 0 where
  pub table_is : (t : LoopShared C O) → table ≡ (slice_index_or shared number t).bottoms
  pub pool_is : (t : LoopShared C O) → pool ≡ (slice_index_or shared number t).pool

-- the same loop, and a row of the same numbers
pub record KeepsPlace {C O : Type 0} (number : ℕ) (row : Row C O) (number_after : ℕ) (row_after : Row C O) : Type 0 where
  pub number_is : number_after ≡ number
  pub first_is : row_after.first ≡ row.first
  pub count_is : row_after.count ≡ row.count
