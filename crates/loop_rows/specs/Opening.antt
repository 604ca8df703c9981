-- New loops.
use Rattle.std.specs.Prelude.{◌≡◌, ℕ, ◌<◌, List, length, slice_index_or}
use Rattle.aio_model.specs.Loop.History.{Sizes}
use Rattle.aio_core.specs.Opening.{IsNew}
use Rattle.aio_bh.specs.OneShots.{ServesHome}
use Rattle.aio_loop.specs.Homes.{IsHomeFree}
use Rattle.lot_pool.specs.Pools.{PassState, IsNew as IsNewPool}
use Rattle.co_schedule.specs.Calls.{IsSeatOf as IsCoSeatOf, IsNew as IsNewCo}
use Rattle.loop_rows.specs.declared.shared.LoopShared.{LoopShared}
use Rattle.loop_rows.specs.declared.seats.Seats.{Seats}
use Rattle.loop_rows.specs.declared.opening.Homes.{Homes}
use Rattle.loop_rows.specs.declared.opening.Opened.{Opened}
use Rattle.loop_rows.specs.Rows.{IsRow, HasNumbers}

-- one handle, no lots and one event
abbrev pub loop_sizes : Sizes
loop_sizes = record { handles = 1; lots = 0; events = 1 }

-- The tables of a loop and the pool are new, and the homes and seats are theirs: nothing was done.
pub record IsNewLoop {C O : Type 0} (coroutines : ℕ) (origin : O) (shared : LoopShared C O) (homes : Homes C O) (seats : Seats C O) : Type 0 where
  pub bottoms : IsNew loop_sizes shared.bottoms homes.home.seat seats.bottoms
  pub other : PassState
  pub pool : IsNewPool 1 0 shared.pool homes.lot_pass other
  pub coroutines_are : IsNewCo coroutines origin shared.coroutines homes.coroutines seats.coroutines

abbrev pub NewEach : {C O : Type 0} → ℕ → ℕ → O → List (LoopShared C O) → List (Homes C O) → List (Seats C O) → Type 0
NewEach {C} {O} n coroutines origin shared homes seats =
    (k : ℕ) (t : LoopShared C O) (h : Homes C O) (s : Seats C O) → k < n → IsNewLoop coroutines origin (slice_index_or shared k t) (slice_index_or homes k h) (slice_index_or seats k s)

-- they are the homes of this loop, between two turns
pub record AreHomesOf {C O : Type 0} (shared : LoopShared C O) (homes : Homes C O) : Type 0 where
  pub home : IsHomeFree shared.bottoms homes.home.seat
  pub lots : ServesHome shared.bottoms.sizes shared.pool homes.lot_pass
  pub coroutines : IsCoSeatOf shared.coroutines homes.coroutines

abbrev pub HomesEach : {C O : Type 0} → ℕ → List (LoopShared C O) → List (Homes C O) → Type 0
HomesEach {C} {O} n shared homes =
    (k : ℕ) (t : LoopShared C O) (h : Homes C O) → k < n → AreHomesOf (slice_index_or shared k t) (slice_index_or homes k h)

-- So many new loops. The row may step on each, and the homes are ready for a run.
pub record AreNewLoops {C O : Type 0} (loops coroutines : ℕ) (origin : O) (opened : Opened C O) : Type 0 where
  pub long : length opened.shared.items ≡ loops
  pub homes_long : length opened.homes.items ≡ loops
  pub each : NewEach loops coroutines origin opened.shared.items opened.homes.items opened.row.seats.items
  pub homes_each : HomesEach loops opened.shared.items opened.homes.items
  pub is_row : IsRow opened.shared.items opened.row
  pub numbers : HasNumbers 0 64 opened.row
