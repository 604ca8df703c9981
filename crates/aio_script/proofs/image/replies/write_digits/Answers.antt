use Rattle.std.proofs.Common.{◌≡◌, ◌∙◌}
use Rattle.hex.specs.Hex.{encode_lower}
use Rattle.aio_script.proofs.Texts.{hex_of-encode, told_ok}
use Rattle.aio_script.proofs.image.replies.write_digits.Goals as goal

pub returns : goal.returns
returns c =
    let bytes = c.args.bytes.now in
    let e = c.encode_to_slice-written.ensures in
    let written : c.encode_to_slice-written.new.output ≡ encode_lower bytes = told_ok c.encode_to_slice-written.result (e.fits.1 c.requires) e.written in
    written ∙ hex_of-encode bytes
