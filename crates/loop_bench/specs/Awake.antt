-- A home that may commit.
use Rattle.std.specs.Prelude.{◌≡◌, true, None}
use Rattle.aio_core.specs.Known.{is_running}
use Rattle.aio_core.specs.Calls.{TableState, SeatState, IsSeatOf}

-- home is of the table, runs, and has nothing at hand
pub record IsAwake (table : TableState) (home : SeatState) : Type 0 where
  pub of : IsSeatOf table home
  pub running : is_running home.known.sleep ≡ true
  pub free : home.known.stage.hand ≡ None
