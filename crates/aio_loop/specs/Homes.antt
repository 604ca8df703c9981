-- A home between the parts of a turn.
use Rattle.std.specs.Prelude.{◌≡◌, true}
use Rattle.aio_model.specs.Loop.InFlight.{AtRest}
use Rattle.aio_core.specs.Known.{empty_stage, is_running}
use Rattle.aio_core.specs.Calls.{TableState, SeatState, IsSeatOf}

-- it is of the table, at rest and running, with no poll under way
pub record IsHomeFree (table : TableState) (seat : SeatState) : Type 0 where
  pub of_table : IsSeatOf table seat
  pub rest : seat.known.phase ≡ AtRest
  pub running : is_running seat.known.sleep ≡ true
  pub empty : seat.known.stage ≡ empty_stage
