use Rattle.doorbells.proofs.Answered.{one_of_two}
use Rattle.doorbells.proofs.polling.ring_twice_and_answer.Goals as goal

pub returns-clause-once : goal.returns-clause-once
returns-clause-once g c =
    let home = c.args.home.now in
    one_of_two c.args.table.now c.args.bell c.ring-found.result c.ring.result home.seat c.ring-found.new.seat c.ring.new.seat c.answer.new.home.seat.known.seen c.args.devices.now.to _ _ home.number.0 c.requires.handle c.ring-found.ensures c.ring.ensures c.answer.ensures.answers
