use Rattle.aio_words.proofs.called.chosen_by.Given as goal

abbrev pub ghost-pick : goal.ghost-pick
ghost-pick g a = g.list
