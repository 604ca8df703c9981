use Rattle.std.proofs.Common.{◌+◌, ◌≤◌, drop, length, arith}
use Rattle.aio_model.specs.Scripts.PrintedText.{hex_of}
use Rattle.aio_script.proofs.Gathered.{PutsOnPage-then, PutsOnPage-stops, PutsOnPage-same}
use Rattle.aio_script.proofs.Texts.{hex_of-range, hex_of-rest}
use Rattle.aio_script.proofs.image.replies.print_hex.Goals as goal

pub returns-in_err-print_hex_piece : goal.returns-in_err-print_hex_piece
returns-in_err-print_hex_piece g c =
    let bytes = c.args.bytes.now in
    let at = c.loop-at.at in
    let end = at + c.min.result in
    let within : end ≤ length bytes = omega (arith, c.min.ensures) in
    PutsOnPage-same (hex_of-rest bytes end)
    (PutsOnPage-stops (hex_of (drop end bytes)) c.from_residual.result c.from_residual.ensures.0
    (PutsOnPage-same (hex_of-range bytes at end (omega arith) within)
    (PutsOnPage-then _ c.loop-at.invariant.printed c.in_err-print_hex_piece.ensures)))

pub loop-at-preserved : goal.loop-at-preserved
loop-at-preserved g c =
    let bytes = c.args.bytes.now in
    let at = c.loop-at.at in
    let end = at + c.min.result in
    let within : end ≤ length bytes = omega (arith, c.min.ensures) in
    record {
      within = within;
      printed = PutsOnPage-same (hex_of-range bytes at end (omega arith) within)
          (PutsOnPage-then _ c.loop-at.invariant.printed c.in_ok-print_hex_piece.ensures);
    }
