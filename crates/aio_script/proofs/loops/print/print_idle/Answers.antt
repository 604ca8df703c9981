use Rattle.std.specs.Fmt.{digits}
use Rattle.aio_script.proofs.loops.print.print_idle.Goals as goal

pub returns : goal.returns
unfolding digits
returns g c = c.put.ensures
