use Rattle.std.proofs.Common.{◌≡◌, ℕ, List, ◌++◌, codes, decimal, ap, ◌∙◌, append_assoc}
use Rattle.aio_script.proofs.Prints.{Prints-then, Prints-stops, Prints-same}
use Rattle.aio_cli.proofs.fault.print_sizes.Goals as goal

-- a text of three parts, and one behind it
behind_three : (a b c d : List ℕ) → (a ++ (b ++ c)) ++ d ≡ a ++ (b ++ (c ++ d))
behind_three a b c d = append_assoc a (b ++ c) d ∙ ap (λ (rest : List ℕ). a ++ rest) (append_assoc b c d)

pub returns-in_err-print_numbered : goal.returns-in_err-print_numbered
returns-in_err-print_numbered g c =
    let e = c.in_err-print_numbered.ensures in
    let image = decimal c.args.image in
    let asked = codes " bytes asked, device has " in
    let device = decimal c.args.device ++ codes "\n" in
    Prints-same (behind_three (codes "image: ") image asked device)
    (Prints-stops device c.from_residual.result c.from_residual.ensures.0
    (record { ok = e.ok; err = e.err; counted = e.counted; cause = e.cause }))

pub returns : goal.returns
returns g c =
    let e = c.in_ok-print_numbered.ensures in
    let f = c.print_numbered-2.ensures in
    let image = decimal c.args.image in
    let asked = codes " bytes asked, device has " in
    let device = decimal c.args.device ++ codes "\n" in
    Prints-same (behind_three (codes "image: ") image asked device)
    (Prints-then _ (record { ok = e.ok; err = e.err; counted = e.counted; cause = e.cause })
    (record { ok = f.ok; err = f.err; counted = f.counted; cause = f.cause }))
