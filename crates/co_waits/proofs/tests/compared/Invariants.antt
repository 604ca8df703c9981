use Rattle.std.proofs.Common.{◌≡◌}
use Rattle.co_waits.proofs.tests.compared.Given as goal

abbrev pub invariant-loop-owner : goal.invariant-loop-owner
invariant-loop-owner g l = l.state.room ≡ l.owners

abbrev pub invariant-loop : goal.invariant-loop
invariant-loop g l = l.state.room ≡ l.owners
