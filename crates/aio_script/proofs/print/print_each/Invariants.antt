-- The parts so far were printed.
use Rattle.std.proofs.Common.{take, Ok}
use Rattle.std.specs.List.{flat_map}
use Rattle.aio_script.specs.Printing.{Prints}
use Rattle.aio_script.proofs.print.print_each.Given as goal

abbrev pub invariant-loop-part : goal.invariant-loop-part
invariant-loop-part g l =
    Prints (flat_map (λ part. part.now) (take l.part-index l.parts)) (g.K.Sink.held l.initial.sink) (g.K.Sink.held l.sink)
    (g.K.Sink.faults l.initial.sink) (g.K.Sink.faults l.sink) (Ok tt)
