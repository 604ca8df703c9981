use Rattle.doorbells.proofs.Rang.{rang}
use Rattle.doorbells.proofs.ringing.ring.Goals as goal

pub returns : goal.returns
returns g c =
    rang c.args.table.now c.args.bell c.schedule.result c.args.seat.now c.schedule.new.seat c.requires.handle c.requires.seat.of c.schedule.ensures.seat.of c.schedule.ensures.seat.rest c.schedule.ensures.stands
