use Rattle.std.proofs.Common.{refl}
use Rattle.loop_threads.proofs.Whole.{ended_keeps}
use Rattle.loop_threads.proofs.ending.end_loop.Goals as goal

pub returns : goal.returns
returns g c = record {
  asleep = c.fall_asleep.new.home.seat;
  sleeps = c.fall_asleep.ensures;
  table_is = c.settled.ensures.0;
  calls = c.settled.ensures.1;
  coroutines = c.closed.ensures;
  keeps = ended_keeps c.settled.ensures.1 c.closed.ensures c.requires.seats c.requires.own;
  side_is = refl;
  lots_are = refl;
  work_is = refl;
}
