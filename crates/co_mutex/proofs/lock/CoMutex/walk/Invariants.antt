use Rattle.co_mutex.proofs.WalkLoop.{IsWalking}
use Rattle.co_mutex.proofs.lock.CoMutex.walk.Given as goal

abbrev pub invariant-loop : goal.invariant-loop
invariant-loop g l =
    (goal.iterator-loop g).can_next l.iterator' × (goal.iterator-loop g).is_finite l.iterator' × IsWalking l.self l.initial.pass l.pass l.list l.word
