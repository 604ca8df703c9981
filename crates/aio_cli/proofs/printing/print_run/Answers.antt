use Rattle.std.proofs.Common.{List, sym, subst}
use Rattle.aio_model.specs.declared.scripts.image_scripts.Step.{Step}
use Rattle.aio_model.specs.Serving.Asked.{asked}
use Rattle.aio_model.specs.Scripts.PrintedText.{printed_text}
use Rattle.aio_script.specs.Printing.{Prints}
use Rattle.reply_printing.specs.Standings.{HaveStreamsBelow}
use Rattle.reply_printing.proofs.ReadScripts.{IsBounded-streams}
use Rattle.aio_cli.specs.declared.printing.Printed.{Printed}
use Rattle.aio_cli.specs.Printed.{text_printed}
use Rattle.aio_cli.proofs.printing.print_run.Goals as goal

pub print_replies-requires-clause-streams : goal.print_replies-requires-clause-streams
print_replies-requires-clause-streams g c =
    subst (HaveStreamsBelow 64) (sym c.as_slice-lines.ensures) (IsBounded-streams c.args.script.now c.requires.bounded)

pub returns-in-Replies : goal.returns-in-Replies
returns-in-Replies g c =
    let held = g.K.Sink.held in
    let faults = g.K.Sink.faults in
    let before = c.args.sink.now in
    let after = c.print_replies.new.sink in
    subst (λ (p : Printed). Prints (text_printed p c.args.script.now c.args.served.now c.args.loops.now) (held before) (held after) (faults before) (faults after) c.print_replies.result) (sym c.in-Replies.is)
    (subst (λ (lines : List Step). Prints (printed_text (asked lines) c.args.served.now) (held before) (held after) (faults before) (faults after) c.print_replies.result) c.as_slice-lines.ensures c.print_replies.ensures.printed)
