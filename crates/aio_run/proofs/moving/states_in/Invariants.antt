-- The sum so far.
use Rattle.std.proofs.Common.{◌≡◌, take}
use Rattle.aio_run.specs.Moves.{states_in}
use Rattle.aio_run.proofs.moving.states_in.Given as goal
use Rattle.aio_model.specs.Counts.{counted}

abbrev pub invariant-loop-end : goal.invariant-loop-end
invariant-loop-end g l = l.total ≡ counted (states_in (take l.end-index l.loops))
