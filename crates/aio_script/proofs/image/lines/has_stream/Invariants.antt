-- None of the streams so far has the number.
use Rattle.std.proofs.Common.{◌≡◌, false, take}
use Rattle.aio_script.specs.Image.Grammar.{has_stream}
use Rattle.aio_script.proofs.image.lines.has_stream.Given as goal

abbrev pub invariant-loop-stream : goal.invariant-loop-stream
invariant-loop-stream l = record {
  other : has_stream l.id (take l.stream-index l.streams) ≡ false;
}
