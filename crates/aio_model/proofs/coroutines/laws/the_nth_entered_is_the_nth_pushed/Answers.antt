use Rattle.aio_model.proofs.CoroutineHistories.{in_order}
use Rattle.aio_model.proofs.coroutines.laws.the_nth_entered_is_the_nth_pushed.Goals as goal

pub returns : goal.returns
returns c = in_order
