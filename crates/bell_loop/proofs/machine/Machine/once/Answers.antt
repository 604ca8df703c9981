use Rattle.std.proofs.Common.{map, ap}
use Rattle.bell_loop.specs.Machines.{machine_state_of}
use Rattle.bell_loop.proofs.Commanding.{Answers-once}
use Rattle.bell_loop.proofs.machine.Machine.once.Goals as goal

pub returns-clause-answers : goal.returns-clause-answers
returns-clause-answers g c =
    let old = c.args.self.now in
    Answers-once c.args.tag c.once-placed.result (machine_state_of old) _
    (ap (λ r. record { sizes = old.table.sizes; lists = map (λ l. l.items) old.callbacks.lists.now; seen = c.once-placed.new.seat.known.seen; rang = r; living = c.once-placed.new.living; marks = old.marks }) c.either-self.ensures)
    c.once-placed.ensures.placed
