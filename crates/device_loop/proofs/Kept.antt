-- What a turn keeps of a device, and one turn more.
use Rattle.std.proofs.Common.{◌≤◌, ◌+◌, ◌-◌, ◌^◌, ℕ, suc, refl, sym, subst, arith}
use Rattle.std.proofs.Math.Nat.{le-min}
use Rattle.lot_pool.specs.Pools.{PoolState}
use Rattle.aio_loop.specs.Entering.{LoopLent, LoopEntered, ForBottom, ForReady, ForExpired}
use Rattle.aio_loop.specs.Walks.{LoopFar}
use Rattle.device_loop.specs.declared.counts.Counts.{Counts}
use Rattle.device_loop.specs.Devices.{counts_after_call, DeviceWorks, DeviceIsDone}
use Rattle.device_loop.specs.Turning.{OneTurn, TurnsSome}

-- a device that is done stays so
counted_done : (what : LoopLent) (counts : Counts) → DeviceIsDone counts → DeviceIsDone (counts_after_call what counts)
counted_done (ForBottom lent answer) counts done = record { stopped = done.stopped; ticks = done.ticks }
counted_done (ForReady ready) counts done = record { stopped = refl; ticks = done.ticks }
counted_done (ForExpired id) counts done =
    let more : 5 ≤ counts.ticks + 1 = omega (arith, done.ticks) in
    let most : 5 ≤ 2 ^ 64 - 1 = omega arith in
    record { stopped = done.stopped; ticks = le-min more most }

pub works_done : (x y : Counts) (e : LoopEntered) → DeviceWorks x e y → DeviceIsDone x → DeviceIsDone y
works_done x y e works done =
    subst DeviceIsDone (sym works.counts) (counted_done e.what x done)

pub one_turn_more : {R : Type 0} (does : R → LoopEntered → R → Type 0) (pool : PoolState) (events : ℕ) (start now next : LoopFar R) → TurnsSome does pool events start now → OneTurn does pool events now next → TurnsSome does pool events start next
one_turn_more does pool events start now next turned one =
    record { count = suc turned.count; turns = (now, turned.turns, one) }
