use Rattle.co_loop.proofs.crew.Crew.build.Given as goal

abbrev pub ghost-build : goal.ghost-build
ghost-build g a = g.origin
