use Rattle.std.proofs.Common.{◌≡◌, ◌∙◌, length, ap}
use Rattle.aio_model.specs.Serving.Asked.{asked}
use Rattle.aio_model.specs.Serving.SerialHistory.{errors_of}
use Rattle.aio_model.specs.Scripts.PrintedText.{end_line}
use Rattle.aio_script.proofs.Gathered.{PutsOnPage-then, PutsOnPage-stops, PutsOnPage-same}
use Rattle.reply_printing.proofs.StreamCounts.{served-many, streams-below}
use Rattle.reply_printing.proofs.print.put_replies.Goals as goal

pub link-requires-clause-streams : goal.link-requires-clause-streams
link-requires-clause-streams g c = streams-below 64 c.args.lines.now c.args.served.now c.requires.order c.requires.streams

pub returns-in_err-print_lines-clause-gathers : goal.returns-in_err-print_lines-clause-gathers
returns-in_err-print_lines-clause-gathers g c =
    PutsOnPage-stops (end_line (length (asked c.args.lines.now)) (errors_of c.args.served.now)) c.from_residual.result c.from_residual.ensures.0
    c.in_err-print_lines.ensures.gathers

pub returns-clause-gathers : goal.returns-clause-gathers
returns-clause-gathers g c =
    let all = asked c.args.lines.now in
    let served = c.args.served.now in
    let last : end_line (length served) c.errors_in.result ≡ end_line (length all) (errors_of served) =
    ap (λ n. end_line n c.errors_in.result) (served-many c.args.lines.now served c.requires.order) ∙ ap (end_line (length all)) c.errors_in.ensures in
    PutsOnPage-then c.print_last.result c.in_ok-print_lines.ensures.gathers (PutsOnPage-same last c.print_last.ensures)
