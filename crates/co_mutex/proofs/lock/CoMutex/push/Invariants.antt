use Rattle.co_mutex.proofs.PushLoop.{IsPushing}
use Rattle.co_mutex.proofs.lock.CoMutex.push.Given as goal

abbrev pub invariant-loop : goal.invariant-loop
invariant-loop g l =
    (goal.iterator-loop g).can_next l.iterator' × (goal.iterator-loop g).is_finite l.iterator' × IsPushing l.self l.who l.fn.pass l.pass
