use Rattle.aio_model.proofs.AnnouncedOnce.{announced_once}
use Rattle.aio_model.proofs.loops.laws.pending_is_announced_once.Goals as goal

pub returns : goal.returns
returns c = announced_once
