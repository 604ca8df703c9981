use Rattle.std.proofs.Common.{refl}
use Rattle.stream_ends.proofs.rounds.resume_once.Goals as goal

pub returns-in-Done-clause-of : goal.returns-in-Done-clause-of
returns-in-Done-clause-of g c = (c.resume.ensures.of c.args.co.now.co.co (c.requires.of, refl)).0

pub returns-in_default-clause-of : goal.returns-in_default-clause-of
returns-in_default-clause-of g c = (c.resume.ensures.of c.args.co.now.co.co (c.requires.of, refl)).0
