-- The lines so far were read.
use Rattle.std.proofs.Common.{◌≡◌, ◌+◌, ◌≤◌, [], length}
use Rattle.aio_script.specs.Loop.Grammar.{script_of, with_lines}
use Rattle.aio_script.specs.Lines.{significant_from}
use Rattle.aio_script.proofs.loops.reader.read_loop_lines.Given as goal

abbrev pub invariant-loop-number : goal.invariant-loop-number
invariant-loop-number l = record {
  read : with_lines (script_of l.header [] []) (significant_from l.first l.text)
      ≡ with_lines (script_of l.header l.acts.items l.commands.items) (significant_from l.next l.left);
  few : l.next + length l.left ≤ 4294967296;
}

abbrev pub decreases-loop-number : goal.decreases-loop-number
decreases-loop-number l = length l.left
