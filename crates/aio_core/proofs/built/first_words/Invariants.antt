use Rattle.aio_core.proofs.Opening.{WordsSoFar}
use Rattle.aio_core.proofs.built.first_words.Given as goal

abbrev pub invariant-loop-lot : goal.invariant-loop-lot
invariant-loop-lot l = WordsSoFar l.fn.counts l.lot l.words.items
