use Rattle.std.proofs.Common.{[]}
use Rattle.aio_words.proofs.called.Trail.empty.Given as goal

abbrev pub ghost-pick : goal.ghost-pick
ghost-pick g a = []
