use Rattle.std.proofs.Common.{map, sym, subst}
use Rattle.bell_loop.specs.Entering.{CanRun}
use Rattle.bell_loop.proofs.callbacks.Callbacks.begin.Goals as goal

pub returns-clause-within : goal.returns-clause-within
returns-clause-within g c handles can =
    c.todo-todo.ensures.within handles (subst (λ s. CanRun handles (map (λ l. l.items) s.lists.now) s.waiting) (sym c.note_first.ensures.rest) can)
