-- The lines so far say nothing.
use Rattle.std.proofs.Common.{◌≡◌, ◌+◌, ◌≤◌, length}
use Rattle.aio_script.specs.Lines.{significant_from}
use Rattle.aio_script.proofs.text.next_line.Given as goal

abbrev pub invariant-loop-left : goal.invariant-loop-left
invariant-loop-left l = record {
  lines : significant_from l.first l.text ≡ significant_from l.number l.left;
  shorter : length l.left ≤ length l.text;
  few : l.number + length l.left ≤ 4294967296;
}

abbrev pub decreases-loop-left : goal.decreases-loop-left
decreases-loop-left l = length l.left
