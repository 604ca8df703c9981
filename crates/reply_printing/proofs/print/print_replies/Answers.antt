use Rattle.aio_script.proofs.Gathered.{OnOk-first, Prints-gathered}
use Rattle.reply_printing.proofs.print.print_replies.Goals as goal

pub returns-clause-printed : goal.returns-clause-printed
returns-clause-printed g c =
    let e = c.hand_over.ensures in
    Prints-gathered c.hand_over.result c.requires.empty c.in_ok-put_replies.ensures.gathers
    (record { ok = OnOk-first _ _ c.hand_over.result e.ok; err = e.err; counted = e.counted; cause = e.cause })
