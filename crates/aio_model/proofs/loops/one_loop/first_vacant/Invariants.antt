use Rattle.std.proofs.Common.{◌≡◌, ◌-◌, not, length, get_or}
use Rattle.aio_model.specs.Loop.Log.{first_from}
use Rattle.aio_model.specs.Loop.State.{blank}
use Rattle.aio_model.proofs.loops.one_loop.first_vacant.Given as goal

abbrev pub invariant-loop-i : goal.invariant-loop-i
invariant-loop-i l =
    first_from (λ i. not (get_or l.halves i blank).lives) l.i (length l.halves - l.i) ≡ first_from (λ i. not (get_or l.halves i blank).lives) l.from (length l.halves - l.from)
