use Rattle.std.proofs.Common.{refl}
use Rattle.bell_loop.proofs.Commanding.{Answers-cancel}
use Rattle.bell_loop.proofs.machine.Machine.cancel.Goals as goal

pub returns-clause-answers : goal.returns-clause-answers
returns-clause-answers g c = Answers-cancel c.args.bh c.cancel.result _ _ refl c.cancel.ensures.goes
