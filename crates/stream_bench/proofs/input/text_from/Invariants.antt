use Rattle.std.proofs.Common.{◌-◌, length}
use Rattle.stream_bench.proofs.input.text_from.Given as goal

abbrev pub decreases-loop-chunk : goal.decreases-loop-chunk
decreases-loop-chunk g l = 1048577 - length l.text.items
