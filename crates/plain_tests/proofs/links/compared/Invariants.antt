use Rattle.std.proofs.Common.{◌≡◌}
use Rattle.plain_tests.proofs.links.compared.Given as goal

abbrev pub invariant-loop : goal.invariant-loop
invariant-loop g l = l.links.room ≡ 6
