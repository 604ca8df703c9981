-- The lines so far are there, and the last draw is at hand.
use Rattle.std.proofs.Common.{◌≡◌, ◌≤◌}
use Rattle.script_generator.specs.Generated.{drawn, lines_to}
use Rattle.script_generator.proofs.scripts.lines.Given as goal

abbrev pub invariant-loop-k : goal.invariant-loop-k
invariant-loop-k l = record {
  lines : l.lines.items ≡ lines_to l.from l.k;
  number : l.x ≡ drawn l.from l.k;
  small : l.x ≤ 65535;
}
