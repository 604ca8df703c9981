use Rattle.std.proofs.Common.{◌-◌, length}
use Rattle.served_check.proofs.Linking.{Linking}
use Rattle.served_check.proofs.cursors.Cursors.begin.Given as goal

abbrev pub invariant-loop-passed : goal.invariant-loop-passed
invariant-loop-passed l = Linking l.lines (length l.lines - l.passed) l.cursors
