use Rattle.bell_loop.specs.Running.{Idles, OnlyOthers}
use Rattle.bell_loop.proofs.steps.fall_asleep.Given as goal

abbrev pub invariant-loop : goal.invariant-loop
invariant-loop g l = record {
  idles : Idles l.table l.home.seat;
  others : OnlyOthers l.initial.home.seat.known.seen l.home.seat.known.seen;
}
