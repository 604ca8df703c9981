use Rattle.loop_rows.proofs.opening.open_loop.Given as goal

abbrev pub ghost-build : goal.ghost-build
ghost-build g a = g.origin
