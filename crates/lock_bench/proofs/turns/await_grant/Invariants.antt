use Rattle.std.proofs.Common.{◌≡◌}
use Rattle.co_mutex.specs.Places.{Queued}
use Rattle.co_mutex.specs.Passes.{IsPassOf, known}
use Rattle.lock_bench.proofs.turns.await_grant.Given as goal

abbrev pub invariant-loop : goal.invariant-loop
invariant-loop g l =
    (goal.iterator-loop g).can_next l.iterator' × (goal.iterator-loop g).is_finite l.iterator' × IsPassOf l.lock l.pass × ((known l.pass).place ≡ Queued) × ((known l.pass).number ≡ (known l.fn.pass).number)
