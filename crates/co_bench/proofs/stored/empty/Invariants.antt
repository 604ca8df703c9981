use Rattle.co_bench.proofs.stored.empty.Given as goal

abbrev pub ghost-build : goal.ghost-build
ghost-build a = tt
