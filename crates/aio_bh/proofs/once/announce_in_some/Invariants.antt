use Rattle.std.proofs.Common.{◌≡◌, ℕ, List}
use Rattle.aio_model.specs.Loop.InFlight.{AtRest}
use Rattle.aio_core.specs.Calls.{IsSeatOf}
use Rattle.lot_pool.specs.Pools.{IsPassOf}
use Rattle.aio_bh.specs.OneShots.{FindsEachTaken}
use Rattle.aio_bh.proofs.once.announce_in_some.Given as goal

abbrev pub invariant-loop : goal.invariant-loop
invariant-loop g l = record {
  pass : IsPassOf l.pool l.pass;
  seat : IsSeatOf l.table l.seat;
  rest : l.seat.known.phase ≡ AtRest;
  job : l.job ≡ l.fn.job;
  tries : (lots : List ℕ) × FindsEachTaken lots l.initial.pass l.initial.seat.known l.pass l.seat.known;
}
