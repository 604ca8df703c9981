use Rattle.aio_core.proofs.Told.{dequeues_told}
use Rattle.aio_core.proofs.table.LoopTable.dequeue.Goals as goal

pub returns-clause-step : goal.returns-clause-step
returns-clause-step g c =
    rw (← c.into_bh.ensures) (dequeues_told c.into_bh.result c.clear_flags-found.result c.from_word.result _ _ c.clear_flags-found.ensures.step c.from_word.ensures.value)
