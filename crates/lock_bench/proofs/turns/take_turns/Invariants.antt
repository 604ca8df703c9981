use Rattle.co_mutex.specs.Decks.{IsResting}
use Rattle.lock_bench.proofs.turns.take_turns.Given as goal

abbrev pub invariant-loop : goal.invariant-loop
invariant-loop g l = IsResting l.lock l.fn.number l.pass
