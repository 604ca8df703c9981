use Rattle.co_mutex.proofs.UnlockLoop.{IsWaking}
use Rattle.co_mutex.proofs.lock.CoMutex.unlock.Given as goal

abbrev pub invariant-loop : goal.invariant-loop
invariant-loop g l =
    (goal.iterator-loop g).can_next l.iterator' × (goal.iterator-loop g).is_finite l.iterator' × IsWaking l.self l.fn.guard.value l.fn.pass l.pass l.list
