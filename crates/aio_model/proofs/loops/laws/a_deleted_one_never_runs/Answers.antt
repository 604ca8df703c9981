use Rattle.aio_model.proofs.Rounds.{never_called_deleted}
use Rattle.aio_model.proofs.loops.laws.a_deleted_one_never_runs.Goals as goal

pub returns : goal.returns
returns c = never_called_deleted
