use Rattle.std.proofs.Common.{ap}
use Rattle.aio_model.specs.declared.loops.commits.Commit.TheVariants.{Sleep}
use Rattle.aio_script.proofs.LoopTexts.{PutsOnPage-commit}
use Rattle.aio_script.proofs.loops.print.print_sleep.Goals as goal

pub returns-in-None : goal.returns-in-None
returns-in-None g c = PutsOnPage-commit (ap Sleep c.in-None.is) c.put_parts.ensures

pub returns-in-Some : goal.returns-in-Some
returns-in-Some g c = PutsOnPage-commit (ap Sleep c.in-Some.is) c.put_counted.ensures
