use Rattle.std.proofs.Common.{◌++◌, codes, decimal}
use Rattle.aio_script.proofs.Prints.{Prints-then, Prints-stops, Prints-same}
use Rattle.script_generator.proofs.Texts.{behind_five}
use Rattle.script_generator.proofs.print.print_bytes.Goals as goal

pub returns-in_err-print_pair : goal.returns-in_err-print_pair
returns-in_err-print_pair g c =
    let rest = decimal c.args.zeroed ++ codes "\n" in
    Prints-same (behind_five (codes "bytes ") (decimal c.args.written) (codes " ") (decimal c.args.got) (codes " ") rest)
    (Prints-stops rest c.from_residual.result c.from_residual.ensures.0 c.in_err-print_pair.ensures)

pub returns : goal.returns
returns g c =
    let rest = decimal c.args.zeroed ++ codes "\n" in
    let f = c.print_numbered.ensures in
    Prints-same (behind_five (codes "bytes ") (decimal c.args.written) (codes " ") (decimal c.args.got) (codes " ") rest)
    (Prints-then _ c.in_ok-print_pair.ensures (record { ok = f.ok; err = f.err; counted = f.counted; cause = f.cause }))
