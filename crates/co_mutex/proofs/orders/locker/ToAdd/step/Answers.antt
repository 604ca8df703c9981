use Rattle.co_mutex.specs.Known.{LockedFetchAdd}
use Rattle.co_mutex.proofs.Holding.{got_hand, told_true}
use Rattle.co_mutex.proofs.orders.locker.ToAdd.step.Goals as goal

pub take_value-value-requires-clause-value : goal.take_value-value-requires-clause-value
take_value-value-requires-clause-value c =
    got_hand _ _ LockedFetchAdd _ _ (told_true _ _ c.add_locked.result 0 c.add_locked.ensures.step c.if-add_locked-eq0.true)
