use Rattle.aio_bh.proofs.OneShots.{places_stands}
use Rattle.aio_bh.proofs.once.once_in.Goals as goal

pub returns-in-Ok-clause-placed : goal.returns-in-Ok-clause-placed
returns-in-Ok-clause-placed g c =
    let a = c.args in
    let lot = c.in-Ok.owed in
    let placed = c.announce_in_some.new.seat.known in
    let after = c.push_in_the_end.new.seat.known in
    let push = c.push_in_the_end.ensures.steps in
    let places = c.in-Ok.ensures.placed.0 in
    record {
      lot = lot;
      placed = placed;
      places = places;
      pushes = push;
      stands = places_stands lot (g.J.Job.number_of a.job) a.pass.now a.seat.now.known c.announce_in_some.new.pass placed push.pushed after places push.pushes push.notifies;
    }
