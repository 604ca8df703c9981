use Rattle.std.proofs.Common.{◌≡◌, ◌≤◌, length, ◌-◌}
use Rattle.aio_words.specs.Content.{TakesBytes}
use Rattle.aio_cli.specs.Calls.{ReadsWell}
use Rattle.aio_cli.specs.Reading.{most_read}
use Rattle.aio_cli.proofs.read.read_text.Given as goal

abbrev pub invariant-loop-chunk : goal.invariant-loop-chunk
invariant-loop-chunk g l =
    TakesBytes (g.S.Source.left l.fn.source) (g.S.Source.left l.source) l.text.items
    × (length l.text.items ≤ most_read)
    × (g.S.Source.faults l.fn.source ≤ g.S.Source.faults l.source)
    × (length l.chunk ≡ 4096)
    × ReadsWell (g.S.Source.calls l.fn.source) (g.S.Source.calls l.source)

abbrev pub decreases-loop-chunk : goal.decreases-loop-chunk
decreases-loop-chunk g l = most_read - length l.text.items
