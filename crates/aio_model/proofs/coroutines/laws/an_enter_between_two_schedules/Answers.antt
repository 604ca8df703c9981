use Rattle.aio_model.proofs.CoroutineHistories.{entered_between}
use Rattle.aio_model.proofs.coroutines.laws.an_enter_between_two_schedules.Goals as goal

pub returns : goal.returns
returns c = entered_between
