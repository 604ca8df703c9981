-- A seat between two calls.
use Rattle.std.specs.Prelude.{◌≡◌}
use Rattle.aio_core.specs.Known.{empty_stage}
use Rattle.aio_core.specs.Calls.{TableState, SeatState, IsReady}

-- the home between two polls: ready, with nothing that a poll took and left
pub record IsBetweenPolls (table : TableState) (home : SeatState) : Type 0 where
  pub ready : IsReady table home
  pub empty : home.known.stage ≡ empty_stage

-- it is ready again, with the numbers that it had
pub record ComesBack (table : TableState) (before after : SeatState) : Type 0 where
  pub ready : IsReady table after
  pub first : after.known.first ≡ before.known.first
  pub count : after.known.count ≡ before.known.count
