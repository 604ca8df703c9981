use Rattle.aio_run.proofs.opening.open_for.Given as goal

abbrev pub ghost-open_loops : goal.ghost-open_loops
ghost-open_loops g a = g.L.Sourced.source a.lock.now a.script.now
