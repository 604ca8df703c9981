use Rattle.std.proofs.Common.{◌≡◌}
use Rattle.plain_tests.proofs.timers.compared.Given as goal

abbrev pub invariant-loop : goal.invariant-loop
invariant-loop g l = l.timers.made ≡ 3
