use Rattle.std.proofs.Common.{◌≡◌}
use Rattle.co_loop.proofs.building.build_timers.Given as goal

abbrev pub invariant-loop : goal.invariant-loop
invariant-loop l =
    (l.timers.room ≡ l.coroutines) × (l.timers.made ≡ l.counter)
