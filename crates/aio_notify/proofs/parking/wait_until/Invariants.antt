use Rattle.std.proofs.Common.{◌≤◌}
use Rattle.aio_notify.proofs.Vain.{IsWaiting}
use Rattle.aio_notify.proofs.parking.wait_until.Given as goal

abbrev pub invariant-loop : goal.invariant-loop
invariant-loop g l =
    (goal.iterator-loop g).can_next l.iterator' × (goal.iterator-loop g).is_finite l.iterator' × IsWaiting l.table l.fn.home.seat l.home.seat × (g.C.Clock.time l.fn.clock ≤ l.start) × (l.start ≤ g.C.Clock.time l.clock)
