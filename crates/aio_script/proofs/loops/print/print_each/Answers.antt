use Rattle.std.specs.List.{flat_map}
use Rattle.std.proofs.Common.{◌+◌, drop, Ok}
use Rattle.aio_model.specs.Scripts.LoopLines.{behind_space}
use Rattle.aio_script.proofs.Gathered.{PutsOnPage-then, PutsOnPage-stops, PutsOnPage-same}
use Rattle.aio_script.proofs.Texts.{flat_map_around, flat_map_next}
use Rattle.aio_script.proofs.loops.print.print_each.Goals as goal

pub returns-in_err-print_called : goal.returns-in_err-print_called
returns-in_err-print_called g c =
    let called = c.args.called.now in
    let i = c.loop-one.one-index in
    let rest = flat_map behind_space (drop (i + 1) called) in
    PutsOnPage-same (flat_map_around behind_space called i _ c.loop-one-test.true)
    (PutsOnPage-then c.from_residual.result c.loop-one.invariant
    (PutsOnPage-stops rest c.from_residual.result c.from_residual.ensures.0 c.in_err-print_called.ensures))

pub loop-one-preserved : goal.loop-one-preserved
loop-one-preserved g c =
    PutsOnPage-same (flat_map_next behind_space c.args.called.now c.loop-one.one-index _ c.loop-one-test.true)
    (PutsOnPage-then (Ok tt) c.loop-one.invariant c.in_ok-print_called.ensures)
