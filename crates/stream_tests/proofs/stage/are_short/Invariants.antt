use Rattle.std.proofs.Common.{take}
use Rattle.img_streams.specs.Lines.{AreShort}
use Rattle.stream_tests.proofs.stage.are_short.Given as goal

abbrev pub invariant-loop-line : goal.invariant-loop-line
invariant-loop-line l = AreShort (take l.line-index l.lines)
