use Rattle.co_mutex.specs.Known.{LockedCompare}
use Rattle.co_mutex.proofs.Holding.{got_hand, told_true}
use Rattle.co_mutex.proofs.orders.locker.ToCompare.step.Goals as goal

pub take_value-value-requires-clause-value : goal.take_value-value-requires-clause-value
take_value-value-requires-clause-value c =
    got_hand _ _ LockedCompare _ _ (told_true _ _ c.compare_locked.result 0 c.compare_locked.ensures.step c.if-compare_locked-eq0.true)
