use Rattle.loop_threads.proofs.hands.new_work.Given as goal

abbrev pub ghost-build : goal.ghost-build
ghost-build g a = g.origin
