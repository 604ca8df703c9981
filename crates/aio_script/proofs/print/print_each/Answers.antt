use Rattle.std.specs.List.{flat_map}
use Rattle.std.proofs.Common.{◌+◌, drop}
use Rattle.aio_script.proofs.Prints.{Prints-then, Prints-stops, Prints-same}
use Rattle.aio_script.proofs.Texts.{flat_map_around}
use Rattle.aio_script.proofs.print.print_each.Goals as goal

pub returns-in_err-print_piece : goal.returns-in_err-print_piece
returns-in_err-print_piece g c =
    let parts = c.args.parts.now in
    let i = c.loop-part.part-index in
    let rest = flat_map (λ part. part.now) (drop (i + 1) parts) in
    Prints-same (flat_map_around (λ part. part.now) parts i _ c.loop-part-test.true)
    (Prints-then c.from_residual.result c.loop-part.invariant
    (Prints-stops rest c.from_residual.result c.from_residual.ensures.0 c.in_err-print_piece.ensures))
