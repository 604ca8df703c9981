use Rattle.aio_core.specs.Calls.{IsSeatOf}
use Rattle.aio_notify.specs.Watching.{LooksOn}
use Rattle.aio_notify.proofs.watching.first_set.Given as goal

abbrev pub invariant-loop-event : goal.invariant-loop-event
invariant-loop-event g l =
    IsSeatOf l.table l.home.seat × LooksOn l.watch l.event l.fn.home.seat.known l.home.seat.known
