-- The lines so far were read.
use Rattle.std.proofs.Common.{◌≡◌, ◌+◌, ◌≤◌, length}
use Rattle.aio_script.specs.Image.Grammar.{counts_of}
use Rattle.aio_script.specs.Lines.{significant_from}
use Rattle.aio_script.specs.Image.Progress.{AreLow, HasRead}
use Rattle.aio_script.proofs.image.reader.read_lines.Given as goal

abbrev pub invariant-loop-number : goal.invariant-loop-number
invariant-loop-number l = record {
  read : HasRead l.loops (significant_from l.first l.text) (significant_from l.next l.left) l.streams.items l.steps.items;
  counts : l.counts ≡ counts_of l.steps.items;
  low : AreLow l.counts;
  few : l.next + length l.left ≤ 4294967296;
}

abbrev pub decreases-loop-number : goal.decreases-loop-number
decreases-loop-number l = length l.left
