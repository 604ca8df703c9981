use Rattle.schedule_fixture.proofs.parts.build_parts.Given as goal

abbrev pub ghost-build : goal.ghost-build
ghost-build g a = tt
