use Rattle.aio_model.proofs.Rounds.{legal_cut}
use Rattle.aio_model.proofs.loops.laws.a_legal_history_cut_anywhere_is_legal.Goals as goal

pub returns : goal.returns
returns c = legal_cut
