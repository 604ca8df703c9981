use Rattle.std.proofs.Common.{sym, subst}
use Rattle.reply_printing.specs.Standings.{HaveStreamsBelow}
use Rattle.reply_printing.proofs.ReadScripts.{IsBounded-streams}
use Rattle.stream_bench.proofs.serving.print.Goals as goal

pub print_replies-requires-clause-streams : goal.print_replies-requires-clause-streams
print_replies-requires-clause-streams g c =
    subst (HaveStreamsBelow 64) (sym c.as_slice.ensures) (IsBounded-streams c.args.script.now c.requires.bounded)
