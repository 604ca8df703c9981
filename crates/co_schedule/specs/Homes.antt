-- A home between two polls.
use Rattle.std.specs.Prelude.{◌≡◌, ◌≤◌, []}
use Rattle.co_schedule.specs.Calls.{TableState, SeatState, RunState, IsSeatOf}

-- the home has begun all that it took, and its run has room for all
pub record IsIdle {O : Type 0} (table : TableState O) (home : SeatState O) (run : RunState) : Type 0 where
  pub home_of : IsSeatOf table home
  pub begun : home.known.stage.taken ≡ []
  pub empty : run.cos ≡ []
  pub room : table.coroutines ≤ run.room
