use Rattle.std.proofs.Common.{◌≡◌}
use Rattle.lot_pool.specs.Pools.{IsPassOf}
use Rattle.bell_loop.specs.Running.{Idles, SameButSeen}
use Rattle.bell_loop.proofs.steps.once.Given as goal

abbrev pub invariant-loop : goal.invariant-loop
invariant-loop g l = record {
  idles : Idles l.table l.seat;
  pass : IsPassOf l.pool l.pass;
  same : SameButSeen l.initial.seat.known l.seat.known;
  seen : l.seat.known.seen ≡ l.initial.seat.known.seen;
  living : l.living ≡ l.initial.living;
}
