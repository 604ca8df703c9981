use Rattle.aio_core.specs.Calls.{IsSeatOf}
use Rattle.aio_notify.specs.Settling.{LooksAtEvents, SameButDone}
use Rattle.aio_notify.proofs.Ends.{NoneSoFar}
use Rattle.aio_model.specs.Loop.Lists.{is_set}
use Rattle.aio_notify.proofs.settling.first_event.Given as goal

abbrev pub invariant-loop-event : goal.invariant-loop-event
invariant-loop-event g l =
    IsSeatOf l.table l.whole.seat × LooksAtEvents l.event l.fn.whole.seat.known l.whole.seat.known × NoneSoFar (λ e. is_set e l.fn.whole.seat.known.seen) l.table.sizes.events l.event × SameButDone l.fn.whole.seat.known l.whole.seat.known
