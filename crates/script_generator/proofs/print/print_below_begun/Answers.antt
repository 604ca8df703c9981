use Rattle.aio_model.specs.Scripts.PrintedText.{end_line}
use Rattle.aio_script.proofs.Prints.{Prints-then, Prints-stops}
use Rattle.script_generator.proofs.print.print_below_begun.Goals as goal

pub returns-in_err-print_bytes : goal.returns-in_err-print_bytes
returns-in_err-print_bytes g c =
    let s = c.args.sums.now in
    Prints-stops (end_line s.n s.errors) c.from_residual.result c.from_residual.ensures.0 c.in_err-print_bytes.ensures

pub returns : goal.returns
returns g c = Prints-then _ c.in_ok-print_bytes.ensures c.print_pair.ensures
