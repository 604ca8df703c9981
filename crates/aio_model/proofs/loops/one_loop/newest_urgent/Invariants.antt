use Rattle.std.proofs.Common.{◌≡◌, reverse, take, get_or}
use Rattle.std.specs.List.{find}
use Rattle.aio_model.specs.Loop.Flags.{are_urgent}
use Rattle.aio_model.specs.Loop.State.{blank}
use Rattle.aio_model.proofs.loops.one_loop.newest_urgent.Given as goal

abbrev pub invariant-loop-index : goal.invariant-loop-index
invariant-loop-index l =
    l.newest ≡ find (λ i. are_urgent (get_or l.halves i blank).flags) (reverse (take l.index-index l.stack))
