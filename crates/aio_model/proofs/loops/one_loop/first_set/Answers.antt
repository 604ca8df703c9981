use Rattle.std.proofs.Common.{◌≡◌, false, length, get_or, ◌∙◌, arith, rules}
use Rattle.aio_model.proofs.Searches.{first_from-next}
use Rattle.aio_model.proofs.loops.one_loop.first_set.Goals as goal

pub loop-e-preserved : goal.loop-e-preserved
loop-e-preserved c =
    let xs = c.args.events.now in
    let e = c.loop-e.e in
    let unset : get_or xs e false ≡ false = search rules in
    first_from-next (λ i. get_or xs i false) e (length xs) (omega arith) unset ∙ c.loop-e.invariant
