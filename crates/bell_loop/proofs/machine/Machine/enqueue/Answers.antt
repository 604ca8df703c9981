use Rattle.std.proofs.Common.{refl}
use Rattle.bell_loop.proofs.Commanding.{Answers-enqueue}
use Rattle.bell_loop.proofs.machine.Machine.enqueue.Goals as goal

pub returns-clause-answers : goal.returns-clause-answers
returns-clause-answers g c = Answers-enqueue c.args.kind c.args.bh c.enqueue-was.result _ _ refl c.enqueue-was.ensures.goes
