use Rattle.std.proofs.Common.{◌+◌, ◌*◌}
use Rattle.bell_tests.proofs.plain.Plain.+polls.Given as goal

abbrev pub decreases-call : goal.decreases-call
decreases-call l = 2 * l.deeper

abbrev pub decreases-frame : goal.decreases-frame
decreases-frame l = 2 * l.deeper + 1
