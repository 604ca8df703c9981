use Rattle.co_mutex.proofs.Finishing.{own_hand}
use Rattle.co_mutex.proofs.orders.locker.ToSwapGrant.step.Goals as goal

pub take_value-value-requires-clause-value : goal.take_value-value-requires-clause-value
take_value-value-requires-clause-value c =
    own_hand _ _ _ _ _ c.swap_own_grant.ensures.step
