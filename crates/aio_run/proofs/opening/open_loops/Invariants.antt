use Rattle.aio_run.proofs.opening.open_loops.Given as goal

abbrev pub ghost-open : goal.ghost-open
ghost-open g a = g.origin

abbrev pub ghost-new_hands : goal.ghost-new_hands
ghost-new_hands g a = g.origin
