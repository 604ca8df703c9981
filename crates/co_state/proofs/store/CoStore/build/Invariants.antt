use Rattle.co_state.proofs.store.CoStore.build.Given as goal

abbrev pub ghost-pick : goal.ghost-pick
ghost-pick g a = g.origin
