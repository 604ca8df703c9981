use Rattle.aio_bh.proofs.Trying.{IsTrying}
use Rattle.aio_bh.proofs.enqueue.push_in_the_end.Given as goal

abbrev pub invariant-loop : goal.invariant-loop
invariant-loop g l =
    (goal.iterator-loop g).can_next l.iterator' × (goal.iterator-loop g).is_finite l.iterator' × IsTrying l.fn.table l.initial.owed l.initial.seat l.seat l.owed
