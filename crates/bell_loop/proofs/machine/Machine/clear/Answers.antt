use Rattle.std.proofs.Common.{◌<◌, sym, ap, map, subst}
use Rattle.bell_loop.specs.Machines.{machine_state_of}
use Rattle.bell_loop.proofs.Commanding.{Answers-clear}
use Rattle.bell_loop.proofs.machine.Machine.clear.Goals as goal

pub returns-clause-answers : goal.returns-clause-answers
returns-clause-answers g c =
    let old = c.args.self.now in
    Answers-clear c.args.event c.clear-was.result (machine_state_of old) _
    (ap (λ m. record { sizes = old.table.sizes; lists = map (λ l. l.items) old.callbacks.lists.now; seen = c.clear-was.new.home.seat.known.seen; rang = old.callbacks.rang; living = old.living; marks = m }) c.mark.ensures)
    (subst (λ n. c.args.event < n) (sym c.requires.ready.marks_are) c.requires.event)
    c.clear-was.ensures.goes
