use Rattle.co_loop_tests.proofs.carried.carry.Given as goal

abbrev pub ghost-build : goal.ghost-build
ghost-build g a = tt
