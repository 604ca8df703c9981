use Rattle.std.proofs.Common.{◌≡◌, false, length, get_or, ◌∙◌, arith, rules}
use Rattle.aio_model.specs.Loop.Flags.{are_due}
use Rattle.aio_model.specs.Loop.State.{blank}
use Rattle.aio_model.proofs.Searches.{first_from-next}
use Rattle.aio_model.proofs.loops.one_loop.any_due.Goals as goal

pub loop-i-preserved : goal.loop-i-preserved
loop-i-preserved c =
    let xs = c.args.halves.now in
    let i = c.loop-i.i in
    let idle : are_due (get_or xs i blank).flags ≡ false = search rules in
    first_from-next (λ k. are_due (get_or xs k blank).flags) i (length xs) (omega arith) idle ∙ c.loop-i.invariant
