use Rattle.std.proofs.Common.{◌≡◌, false, not, length, get_or, ◌∙◌, arith, rules}
use Rattle.aio_model.specs.Loop.State.{blank}
use Rattle.aio_model.proofs.Searches.{first_from-next}
use Rattle.aio_model.proofs.loops.one_loop.first_vacant.Goals as goal

pub loop-i-preserved : goal.loop-i-preserved
loop-i-preserved c =
    let xs = c.args.halves.now in
    let i = c.loop-i.i in
    let lives : not (get_or xs i blank).lives ≡ false = search rules in
    first_from-next (λ k. not (get_or xs k blank).lives) i (length xs) (omega arith) lives ∙ c.loop-i.invariant
