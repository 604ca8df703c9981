use Rattle.co_state.proofs.tests.built.Given as goal

abbrev pub ghost-build : goal.ghost-build
ghost-build g a = tt
