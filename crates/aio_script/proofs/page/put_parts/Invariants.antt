-- The parts so far were put on the page.
use Rattle.std.proofs.Common.{take, Ok}
use Rattle.std.specs.List.{flat_map}
use Rattle.aio_script.specs.Printing.{PutsOnPage}
use Rattle.aio_script.proofs.page.put_parts.Given as goal

abbrev pub invariant-loop-part : goal.invariant-loop-part
invariant-loop-part g l =
    PutsOnPage (flat_map (λ part. part.now) (take l.part-index l.parts)) l.initial.page l.page (g.K.Sink.held l.initial.sink) (g.K.Sink.held l.sink)
    (g.K.Sink.faults l.initial.sink) (g.K.Sink.faults l.sink) (Ok tt)
