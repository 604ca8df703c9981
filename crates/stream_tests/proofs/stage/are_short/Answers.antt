use Rattle.std.proofs.Common.{rules}
use Rattle.stream_tests.proofs.Shortness.{short_more}
use Rattle.stream_tests.proofs.stage.are_short.Goals as goal

pub loop-line-preserved : goal.loop-line-preserved
loop-line-preserved c =
    short_more c.args.lines.now c.loop-line.line-index c.line-item.result c.loop-line-test.true c.line-item.is c.loop-line.invariant (c.is_short.ensures (search rules))
