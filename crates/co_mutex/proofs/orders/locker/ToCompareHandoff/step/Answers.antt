use Rattle.co_mutex.proofs.Holding.{told_true}
use Rattle.co_mutex.proofs.Stepping.{taken}
use Rattle.co_mutex.proofs.orders.locker.ToCompareHandoff.step.Goals as goal

pub take_list-list-requires-clause-list : goal.take_list-list-requires-clause-list
take_list-list-requires-clause-list c =
    taken _ _ _ _ (told_true _ _ c.take_handoff.result _ c.take_handoff.ensures.step c.if-take_handoff-number.false)
