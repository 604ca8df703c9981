-- Loops that were built for the tests.
use Rattle.std.specs.Prelude.{◌≡◌, ℕ, ◌≤◌, IsFalse, List, [], slice_index_or}
use Rattle.lot_pool.specs.Pools.{PoolState, PassState}
use Rattle.aio_core.specs.Calls.{TableState, SeatState}
use Rattle.aio_bh.specs.OneShots.{ServesHome}
use Rattle.aio_loop.specs.Homes.{IsHomeFree}
use Rattle.aio_loop.specs.declared.side.Side.{Side}
use Rattle.co_schedule.specs.Calls.{SeatState as CoSeatState, RunState}
use Rattle.loop_rows.specs.declared.shared.LoopShared.{LoopShared}
use Rattle.loop_rows.specs.declared.seats.Seats.{Seats}
use Rattle.co_loop.specs.declared.crew.Crew.{Crew}
use Rattle.loop_rows.specs.Posts.{IsSeated}
use Rattle.co_loop.specs.Rows.{IsLoopOf}
use Rattle.co_loop.specs.Begins.{IsHomeRun}
use Rattle.co_loop.specs.Loops.{IsOnLoop}

module _ {C O : Type 0} where
  -- a loop for four coroutines, with seats for two rows
  pub record IsOpened (shared : LoopShared C O) (seats others : Seats C O) (home : SeatState) (pass : PassState) (co_home : CoSeatState O) (run : RunState) : Type 0 where
    pub loop_of : IsLoopOf 4 shared
    pub seats_of : IsSeated shared seats
    pub others_of : IsSeated shared others
    pub home_of : IsHomeFree shared.bottoms home
    pub lots : ServesHome shared.bottoms.sizes shared.pool pass
    pub co_home_of : IsHomeRun shared.coroutines co_home run
    pub idle : co_home.known.stage.taken ≡ []

  -- what the home thread of the loop of this number owns
  pub record AreEndsOf (shared : List (LoopShared C O)) (own : ℕ) (home : SeatState) (pass : PassState) (co_home : CoSeatState O) (run : RunState) : Type 0 where
    pub home_of : (t : LoopShared C O) → IsHomeFree (slice_index_or shared own t).bottoms home
    pub lots : (t : LoopShared C O) → ServesHome (slice_index_or shared own t).bottoms.sizes (slice_index_or shared own t).pool pass
    pub co_home_of : (t : LoopShared C O) → IsHomeRun (slice_index_or shared own t).coroutines co_home run
    pub idle : co_home.known.stage.taken ≡ []

  -- a loop between two turns
  pub record IsBetweenTurns (is_of : ℕ → C → O → Type 0) (source : O) (shared : List (LoopShared C O)) (crew : Crew C O) (co_home : CoSeatState O) (run : RunState) (table : TableState) (pool : PoolState) (pass : PassState) (home : SeatState) (side : Side) : Type 0 where
    pub fits : IsOnLoop is_of source shared crew co_home run
    pub timers : crew.coroutines ≤ side.timers.made
    pub lots : ServesHome table.sizes pool pass
    pub home_of : IsHomeFree table home
    pub walking : IsFalse side.handlers.walking
