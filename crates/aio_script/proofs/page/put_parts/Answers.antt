use Rattle.std.specs.List.{flat_map}
use Rattle.std.proofs.Common.{◌+◌, drop, Ok}
use Rattle.aio_script.proofs.Gathered.{PutsOnPage-then, PutsOnPage-stops, PutsOnPage-same}
use Rattle.aio_script.proofs.Texts.{flat_map_around, flat_map_next}
use Rattle.aio_script.proofs.page.put_parts.Goals as goal

pub returns-in_err-put : goal.returns-in_err-put
returns-in_err-put g c =
    let parts = c.args.parts.now in
    let i = c.loop-part.part-index in
    let rest = flat_map (λ part. part.now) (drop (i + 1) parts) in
    PutsOnPage-same (flat_map_around (λ part. part.now) parts i _ c.loop-part-test.true)
    (PutsOnPage-then c.from_residual.result c.loop-part.invariant
    (PutsOnPage-stops rest c.from_residual.result c.from_residual.ensures.0 c.in_err-put.ensures))

pub loop-part-preserved : goal.loop-part-preserved
loop-part-preserved g c =
    PutsOnPage-same (flat_map_next (λ part. part.now) c.args.parts.now c.loop-part.part-index _ c.loop-part-test.true)
    (PutsOnPage-then (Ok tt) c.loop-part.invariant c.in_ok-put.ensures)
