use Rattle.bell_loop.proofs.callbacks.Callbacks.todo.Goals as goal

pub returns-else-first-clause-within : goal.returns-else-first-clause-within
returns-else-first-clause-within g c handles can = c.take_up.ensures.within handles can.waits
