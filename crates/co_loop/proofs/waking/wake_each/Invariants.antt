use Rattle.std.proofs.Common.{◌≡◌, length}
use Rattle.co_loop.specs.Rows.{AreSeatsOfLoops}
use Rattle.co_loop.specs.Wakes.{Reach, reach, WakesEach}
use Rattle.co_loop.proofs.waking.wake_each.Given as goal

abbrev pub decreases-loop-id : goal.decreases-loop-id
decreases-loop-id g l = length l.cx.wakes

-- whatever wakes the others, has woken all
abbrev pub invariant-loop-id : goal.invariant-loop-id
invariant-loop-id g l =
    AreSeatsOfLoops l.coroutines l.shared l.seats.items
    × (l.woken.room ≡ l.coroutines)
    × (l.cx ≡ record l.fn.cx { wakes = l.cx.wakes })
    × ((end : Reach g.row.C.Denot g.row.C-Source.Denot) → WakesEach l.own l.coroutines (length l.shared) l.cx.wakes (reach l.woken.items l.seats.items) end → WakesEach l.own l.coroutines (length l.shared) l.fn.cx.wakes (reach l.fn.woken.items l.fn.seats.items) end)
