use Rattle.std.proofs.Common.{◌≡◌, ◌-◌, false, length, get_or}
use Rattle.aio_model.specs.Loop.Log.{first_from}
use Rattle.aio_model.proofs.loops.one_loop.first_set.Given as goal

abbrev pub invariant-loop-e : goal.invariant-loop-e
invariant-loop-e l =
    first_from (λ e. get_or l.events e false) l.e (length l.events - l.e) ≡ first_from (λ e. get_or l.events e false) 0 (length l.events)
