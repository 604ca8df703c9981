use Rattle.co_mutex.specs.Decks.{IsResting}
use Rattle.lock_tests.proofs.adders.add_all.Given as goal

abbrev pub invariant-loop-held : goal.invariant-loop-held
invariant-loop-held g l = IsResting l.lock l.fn.number l.pass
