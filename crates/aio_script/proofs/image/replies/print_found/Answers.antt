use Rattle.std.proofs.Common.{◌++◌, ap, sym, codes, ℕ, List}
use Rattle.aio_model.specs.Scripts.PrintedText.{data_text}
use Rattle.aio_script.proofs.Gathered.{PutsOnPage-then, PutsOnPage-stops, PutsOnPage-same}
use Rattle.aio_script.proofs.Texts.{data_text-some}
use Rattle.aio_script.proofs.image.replies.print_found.Goals as goal

pub returns-in_err-put_parts : goal.returns-in_err-put_parts
returns-in_err-put_parts g c =
    PutsOnPage-stops (data_text c.args.bytes.now ++ codes "\n") c.from_residual.result c.from_residual.ensures.0 c.in_err-put_parts.ensures

pub returns-in_err-print_hex : goal.returns-in_err-print_hex
returns-in_err-print_hex g c =
    let bytes = c.args.bytes.now in
    let result = c.from_residual-in_err-print_hex.result in
    PutsOnPage-same (ap (λ (x : List ℕ). codes "ok " ++ (x ++ codes "\n")) (data_text-some bytes (sym c.if-is_empty.ensures)))
    (PutsOnPage-then result c.in_ok-put_parts.ensures
    (PutsOnPage-stops (codes "\n") result c.from_residual-in_err-print_hex.ensures.0 c.in_err-print_hex.ensures))

pub returns : goal.returns
returns g c =
    let bytes = c.args.bytes.now in
    PutsOnPage-same (ap (λ (x : List ℕ). codes "ok " ++ (x ++ codes "\n")) (data_text-some bytes (sym c.if-is_empty.ensures)))
    (PutsOnPage-then _ c.in_ok-put_parts.ensures (PutsOnPage-then _ c.in_ok-print_hex.ensures c.put_parts-3.ensures))
