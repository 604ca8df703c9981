-- The words so far are words.
use Rattle.std.proofs.Common.{◌≡◌, length}
use Rattle.aio_script.specs.Lines.{are_words}
use Rattle.aio_script.proofs.text.are_words.Given as goal

abbrev pub invariant-loop-behind : goal.invariant-loop-behind
invariant-loop-behind l = record {
  words : are_words l.line ≡ are_words l.left;
}

abbrev pub decreases-loop-behind : goal.decreases-loop-behind
decreases-loop-behind l = length l.left
