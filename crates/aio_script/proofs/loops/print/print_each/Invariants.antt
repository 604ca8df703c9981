-- Those so far were put on the page.
use Rattle.std.proofs.Common.{take, Ok}
use Rattle.std.specs.List.{flat_map}
use Rattle.aio_model.specs.Scripts.LoopLines.{behind_space}
use Rattle.aio_script.specs.Printing.{PutsOnPage}
use Rattle.aio_script.proofs.loops.print.print_each.Given as goal

abbrev pub invariant-loop-one : goal.invariant-loop-one
invariant-loop-one g l =
    PutsOnPage (flat_map behind_space (take l.one-index l.called)) l.initial.page l.page (g.K.Sink.held l.initial.sink) (g.K.Sink.held l.sink)
    (g.K.Sink.faults l.initial.sink) (g.K.Sink.faults l.sink) (Ok tt)
