use Rattle.std.proofs.Common.{◌≡◌, ◌<◌, IsFalse}
use Rattle.aio_bh.specs.OneShots.{ServesHome}
use Rattle.aio_loop.specs.Homes.{IsHomeFree}
use Rattle.aio_loop.specs.Walks.{loop_far}
use Rattle.device_loop.specs.Devices.{DeviceWorks}
use Rattle.device_loop.specs.Turning.{TurnsSome}
use Rattle.device_loop.proofs.running.turn_until_done.Given as goal

abbrev pub invariant-loop : goal.invariant-loop
invariant-loop g l =
    (goal.iterator-loop g).can_next l.iterator' × (goal.iterator-loop g).is_finite l.iterator' × (l.home_loop.table ≡ l.fn.home_loop.table) × (l.home_loop.pool ≡ l.fn.home_loop.pool) × (l.device.timer.number < l.home_loop.side.timers.made) × ServesHome l.fn.home_loop.table.now.sizes l.fn.home_loop.pool.now l.home_loop.lot_pass × IsHomeFree l.fn.home_loop.table.now l.home_loop.home.seat × IsFalse l.home_loop.side.handlers.walking × TurnsSome (λ before entered after. DeviceWorks before.counts entered after.counts) l.fn.home_loop.pool.now l.fn.home_loop.table.now.sizes.events (loop_far l.fn.home_loop.home.seat.known l.fn.home_loop.side l.fn.device) (loop_far l.home_loop.home.seat.known l.home_loop.side l.device)
