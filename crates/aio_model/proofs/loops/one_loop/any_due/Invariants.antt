use Rattle.std.proofs.Common.{◌≡◌, ◌-◌, length, get_or}
use Rattle.aio_model.specs.Loop.Flags.{are_due}
use Rattle.aio_model.specs.Loop.Log.{first_from}
use Rattle.aio_model.specs.Loop.State.{blank}
use Rattle.aio_model.proofs.loops.one_loop.any_due.Given as goal

abbrev pub invariant-loop-i : goal.invariant-loop-i
invariant-loop-i l =
    first_from (λ i. are_due (get_or l.halves i blank).flags) l.i (length l.halves - l.i) ≡ first_from (λ i. are_due (get_or l.halves i blank).flags) 0 (length l.halves)
