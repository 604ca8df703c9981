use Rattle.bell_loop.proofs.Actions.{IsLent-acts}
use Rattle.bell_loop.proofs.acting.act_once.Goals as goal

pub returns-clause-lent : goal.returns-clause-lent
returns-clause-lent g c = IsLent-acts _ _ _ _ c.requires.lent c.act.ensures.seat c.act.ensures.acts
