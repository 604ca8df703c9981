use Rattle.aio_notify.proofs.Vain.{IsWaiting}
use Rattle.aio_notify.proofs.parking.wait_for_notifier.Given as goal

abbrev pub invariant-loop : goal.invariant-loop
invariant-loop g l =
    (goal.iterator-loop g).can_next l.iterator' × (goal.iterator-loop g).is_finite l.iterator' × IsWaiting l.table l.fn.home.seat l.home.seat
