-- As many as were pushed.
use Rattle.std.proofs.Common.{◌≡◌, length}
use Rattle.script_tests.proofs.loop_printing.full_list.Given as goal

abbrev pub invariant-loop-i : goal.invariant-loop-i
invariant-loop-i l = length l.list ≡ l._i
