use Rattle.aio_model.proofs.Rounds.{enqueued_between}
use Rattle.aio_model.proofs.loops.laws.an_enqueue_between_two_dequeues.Goals as goal

pub returns : goal.returns
returns c = enqueued_between
