use Rattle.aio_core.specs.Calls.{IsSeatOf}
use Rattle.aio_notify.specs.Settling.{LooksAtFlags, SameButDone}
use Rattle.aio_notify.proofs.Ends.{NoneSoFar}
use Rattle.aio_model.specs.Loop.Flags.{is_pending}
use Rattle.aio_core.specs.Words.{index_count}
use Rattle.aio_notify.proofs.settling.first_pending.Given as goal

abbrev pub invariant-loop-bh : goal.invariant-loop-bh
invariant-loop-bh g l =
    IsSeatOf l.table l.whole.seat × LooksAtFlags l.bh l.fn.whole.seat.known l.whole.seat.known × NoneSoFar (λ i. is_pending i l.fn.whole.seat.known.seen) (index_count l.table.sizes) l.bh × SameButDone l.fn.whole.seat.known l.whole.seat.known
