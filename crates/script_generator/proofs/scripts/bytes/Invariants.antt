-- The bytes so far are there.
use Rattle.std.proofs.Common.{◌≡◌}
use Rattle.script_generator.specs.Generated.{bytes_to}
use Rattle.script_generator.proofs.scripts.bytes.Given as goal

abbrev pub invariant-loop-j : goal.invariant-loop-j
invariant-loop-j l = l.bytes.items ≡ bytes_to l.k l.j
