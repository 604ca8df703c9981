use Rattle.std.proofs.Common.{◌≡◌, length}
use Rattle.co_loop.specs.Napping.{bed, ArmsEach}
use Rattle.co_loop.proofs.napping.arm_all.Given as goal

abbrev pub invariant-loop-co : goal.invariant-loop-co
invariant-loop-co l =
    (length l.naps.items ≡ l.coroutines)
    × (l.timers.made ≡ l.fn.timers.made)
    × (l.timers.room ≡ l.fn.timers.room)
    × ArmsEach l.now l.co (bed l.fn.naps.items l.fn.timers) (bed l.naps.items l.timers)
