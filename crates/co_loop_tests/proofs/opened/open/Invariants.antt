use Rattle.co_loop_tests.proofs.opened.open.Given as goal

abbrev pub ghost-build : goal.ghost-build
ghost-build g a = tt
