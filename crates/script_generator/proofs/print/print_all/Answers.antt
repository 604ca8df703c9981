use Rattle.std.proofs.Common.{◌++◌}
use Rattle.aio_model.specs.Scripts.PrintedText.{end_line}
use Rattle.aio_script.proofs.Prints.{Prints-then, Prints-stops}
use Rattle.script_generator.specs.Sums.{begun_line, bytes_line}
use Rattle.script_generator.proofs.print.print_all.Goals as goal

pub returns-in_err-print_pair : goal.returns-in_err-print_pair
returns-in_err-print_pair g c =
    let s = c.args.sums.now in
    Prints-stops (begun_line s.begun s.moved ++ (bytes_line s.written s.got s.zeroed ++ end_line s.n s.errors))
    c.from_residual.result c.from_residual.ensures.0 c.in_err-print_pair.ensures

pub returns : goal.returns
returns g c = Prints-then _ c.in_ok-print_pair.ensures c.print_below_gen.ensures
