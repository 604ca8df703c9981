use Rattle.aio_core.specs.Standing.{asks_of_kind}
use Rattle.aio_core.proofs.Told.{enqueues_told}
use Rattle.aio_core.proofs.table.LoopTable.announce.Goals as goal

pub returns-clause-step : goal.returns-clause-step
returns-clause-step g c =
    enqueues_told c.args.bh c.set_flags-found.result (asks_of_kind c.args.kind) c.from_word-flags.result _ _ c.set_flags-found.ensures.step c.from_word-flags.ensures.value
