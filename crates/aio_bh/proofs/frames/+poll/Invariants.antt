use Rattle.std.proofs.Common.{◌+◌, ◌*◌, length}
use Rattle.aio_model.specs.Loop.Frame.{Frame, nests_above}
use Rattle.aio_model.specs.Loop.Lists.{out_of}
use Rattle.lot_pool.specs.Pools.{IsHomeOf}
use Rattle.aio_bh.specs.OneShots.{GivesFreed}
use Rattle.aio_bh.specs.PollFrames.{far, GoesFurther, IsBetween, TakesAndSome}
use Rattle.aio_bh.proofs.frames.+poll.Given as goal

abbrev pub decreases-nest : goal.decreases-nest
decreases-nest g l = 16 * l.deeper + 2 * l.nests

abbrev pub decreases-turn : goal.decreases-turn
decreases-turn g l = 16 * l.deeper + 12

abbrev pub decreases-frame : goal.decreases-frame
decreases-frame g l = 16 * l.deeper + 15

abbrev pub invariant-frame-loop-next : goal.invariant-frame-loop-next
invariant-frame-loop-next g l = record {
  goes : GoesFurther (TakesAndSome l.table.sizes (Frame l.table.sizes l.deeper) (nests_above l.deeper)) g.R.Runner.does (far l.fn.home.seat.known l.fn.runner l.fn.polled) (far l.home.seat.known l.runner l.polled);
  between : IsBetween l.table l.deeper l.home.seat;
  pass : IsHomeOf l.pool l.pass;
  gives : GivesFreed l.pool l.fn.home.seat.known l.home.seat.known l.fn.pass l.pass;
  can_run : g.R.Runner.can_run l.runner l.table.sizes;
}

abbrev pub decreases-frame-loop-next : goal.decreases-frame-loop-next
decreases-frame-loop-next g l = length (out_of l.home.seat.known.seen)
