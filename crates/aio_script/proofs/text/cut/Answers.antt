use Rattle.std.proofs.Common.{◌==◌, sym}
use Rattle.aio_script.proofs.Cuts.{split-found, split-not_found}
use Rattle.aio_script.proofs.text.cut.Goals as goal

pub returns-in-Some-clause-parts : goal.returns-in-Some-clause-parts
returns-in-Some-clause-parts c = split-found (λ x. x == c.args.byte) c.args.text.now c.in-Some.at (sym c.in-Some.ensures)

pub returns-in-None-clause-parts : goal.returns-in-None-clause-parts
returns-in-None-clause-parts c = split-not_found (λ x. x == c.args.byte) c.args.text.now (sym c.in-None.ensures)
