use Rattle.std.proofs.Common.{◌∷◌, ◌∙◌}
use Rattle.aio_bh.proofs.OneShots.{taken_rests, each_taken_same, each_taken_steps}
use Rattle.aio_bh.proofs.once.announce_in_some.Goals as goal

pub loop-preserved : goal.loop-preserved
loop-preserved g c =
    let v = c.loop.invariant in
    let lot = c.in-Some-pop.lot in
    let taken = c.in-Err.ensures.steps in
    record {
      pass = c.pop.ensures.pass;
      seat = c.in-Err.ensures.seat;
      rest = taken_rests lot c.loop.seat.known c.announce_once.new.seat.known taken.1 ∙ v.rest;
      job = taken.0 ∙ v.job;
      tries = (lot ∷ v.tries.0, (c.loop.pass, c.loop.seat.known, v.tries.1, c.in-Some-pop.ensures.popped.0, taken.1));
    }

pub returns-in_default-clause-placed : goal.returns-in_default-clause-placed
returns-in_default-clause-placed g c =
    let v = c.loop.invariant in
    let before = c.args.seat.now.known in
    let empty = rw c.in_default.is at c.pop.ensures.popped in
    (v.job, record { lots = v.tries.0; last = c.loop.pass; tries = v.tries.1; empty = empty; same = each_taken_same v.tries.0 c.args.pass.now before c.loop.pass c.loop.seat.known v.tries.1; steps = each_taken_steps v.tries.0 c.args.pass.now before c.loop.pass c.loop.seat.known v.tries.1 })
