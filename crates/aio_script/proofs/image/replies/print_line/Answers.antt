use Rattle.std.proofs.Common.{◌++◌, codes, decimal}
use Rattle.aio_model.specs.Scripts.PrintedText.{verb_of, outcome_of}
use Rattle.aio_script.proofs.Gathered.{PutsOnPage-then, PutsOnPage-stops, PutsOnPage-same}
use Rattle.aio_script.proofs.Texts.{line_of-parts}
use Rattle.aio_script.proofs.image.replies.print_line.Goals as goal

pub returns-in_err-print_head : goal.returns-in_err-print_head
returns-in_err-print_head g c =
    let placed = c.args.placed.now in
    let outcome = outcome_of placed.reply in
    let p = PutsOnPage-same (line_of-parts (decimal c.args.place) (decimal placed.stream) (verb_of c.args.request.now) outcome)
    (PutsOnPage-stops (outcome ++ codes "\n") c.from_residual.result c.from_residual.ensures.0 c.in_err-print_head.ensures) in
    record { ok = p.ok; err = p.err; counted = p.counted; cause = p.cause }

pub returns : goal.returns
returns g c =
    let placed = c.args.placed.now in
    let outcome = outcome_of placed.reply in
    let p = PutsOnPage-same (line_of-parts (decimal c.args.place) (decimal placed.stream) (verb_of c.args.request.now) outcome)
    (PutsOnPage-then _ c.in_ok-print_head.ensures c.print_outcome.ensures) in
    record { ok = p.ok; err = p.err; counted = p.counted; cause = p.cause }
