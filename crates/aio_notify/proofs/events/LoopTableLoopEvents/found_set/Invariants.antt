use Rattle.std.proofs.Common.{◌<◌, ◌^◌}
use Rattle.aio_core.specs.Calls.{IsSeatOf}
use Rattle.aio_notify.specs.Watching.{FindsBits}
use Rattle.aio_notify.proofs.events.LoopTableLoopEvents.found_set.Given as goal

abbrev pub invariant-loop-event : goal.invariant-loop-event
invariant-loop-event g l =
    IsSeatOf l.self l.home.seat × (l.bits < 2 ^ l.event) × FindsBits l.watch l.event l.bits l.fn.home.seat.known l.home.seat.known
