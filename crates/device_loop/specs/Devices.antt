-- What one entry does to a device.
use Rattle.std.specs.Prelude.{◌≡◌, ◌≤◌, true, []}
use Rattle.aio_loop.specs.Entering.{LoopLent, LoopEntered, ForBottom, ForReady, ForExpired}
use Rattle.device_loop.specs.declared.counts.Counts.{Counts}
use Rattle.aio_model.specs.Counts.{one_more}

-- A bottom half is an answer to the doorbell, a handler that of the event by which the device is asked to stop, a timer a tick.
abbrev pub counts_after_call : LoopLent → Counts → Counts
counts_after_call (ForBottom lent answer) counts = record counts { rings = one_more counts.rings }
counts_after_call (ForReady ready) counts = record counts { stopped = true }
counts_after_call (ForExpired id) counts = record counts { ticks = one_more counts.ticks }

-- The entry was counted. Nothing was scheduled by it, and no handler added or removed.
pub record DeviceWorks (before : Counts) (entered : LoopEntered) (after : Counts) : Type 0 where
  pub counts : after ≡ counts_after_call entered.what before
  pub made_none : entered.made ≡ []
  pub same_handlers : entered.on_handlers ≡ []

-- it was asked to stop, and its timer has ticked as often as it does
pub record DeviceIsDone (counts : Counts) : Type 0 where
  pub stopped : counts.stopped ≡ true
  pub ticks : 5 ≤ counts.ticks
