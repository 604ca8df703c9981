use Rattle.aio_model.proofs.CoroutineHistories.{legal_cut}
use Rattle.aio_model.proofs.coroutines.laws.an_older_part_of_a_legal_one_is_legal.Goals as goal

pub returns : goal.returns
returns c = legal_cut
