use Rattle.std.proofs.Common.{◌≤◌}
use Rattle.co_waits.proofs.tests.follows.Given as goal

abbrev pub invariant-loop-owner : goal.invariant-loop-owner
invariant-loop-owner g l = 4 ≤ l.state.room

abbrev pub invariant-loop-call : goal.invariant-loop-call
invariant-loop-call g l =
    (4 ≤ l.state.room) × (goal.iterator-loop-call g).can_next l.call-iterator × (goal.iterator-loop-call g).is_finite l.call-iterator
