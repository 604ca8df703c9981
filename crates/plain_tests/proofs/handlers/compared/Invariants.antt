use Rattle.std.proofs.Common.{◌≡◌}
use Rattle.plain_tests.proofs.handlers.compared.Given as goal

abbrev pub invariant-loop : goal.invariant-loop
invariant-loop g l = l.handlers.walking ≡ l.is_walking
