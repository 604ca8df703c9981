use Rattle.std.proofs.Common.{ap, sym}
use Rattle.aio_model.specs.Scripts.LoopLines.{reply_text}
use Rattle.aio_script.proofs.Gathered.{PutsOnPage-same}
use Rattle.aio_script.proofs.loops.print.print_poll.Goals as goal

pub returns-then-found_nothing : goal.returns-then-found_nothing
returns-then-found_nothing g c = PutsOnPage-same (ap reply_text (sym (c.found_nothing.ensures c.if-found_nothing.true))) c.print_idle.ensures
