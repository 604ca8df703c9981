use Rattle.std.proofs.Common.{refl}
use Rattle.stream_carrier.proofs.carrying.resume_one.Goals as goal

pub returns-clause-of : goal.returns-clause-of
returns-clause-of g c = (c.resume.ensures.of c.args.co.now.co.co (c.requires.of, refl)).0
