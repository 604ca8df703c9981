use Rattle.schedule_tests.proofs.rows.outcome.Given as goal

abbrev pub ghost-build : goal.ghost-build
ghost-build g a = tt
