use Rattle.std.proofs.Common.{◌++◌, decimal}
use Rattle.aio_script.proofs.Prints.{Prints-then, Prints-stops, Prints-same}
use Rattle.script_generator.proofs.Texts.{behind_three}
use Rattle.script_generator.proofs.print.print_pair.Goals as goal

pub returns-in_err-print_numbered : goal.returns-in_err-print_numbered
returns-in_err-print_numbered g c =
    let e = c.in_err-print_numbered.ensures in
    let rest = decimal c.args.b ++ c.args.behind.now in
    Prints-same (behind_three c.args.before.now (decimal c.args.a) c.args.between.now rest)
    (Prints-stops rest c.from_residual.result c.from_residual.ensures.0
    (record { ok = e.ok; err = e.err; counted = e.counted; cause = e.cause }))

pub returns : goal.returns
returns g c =
    let e = c.in_ok-print_numbered.ensures in
    let f = c.print_numbered-2.ensures in
    let rest = decimal c.args.b ++ c.args.behind.now in
    Prints-same (behind_three c.args.before.now (decimal c.args.a) c.args.between.now rest)
    (Prints-then _ (record { ok = e.ok; err = e.err; counted = e.counted; cause = e.cause })
    (record { ok = f.ok; err = f.err; counted = f.counted; cause = f.cause }))
