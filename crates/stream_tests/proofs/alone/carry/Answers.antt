use Rattle.std.proofs.Common.{refl}
use Rattle.stream_tests.proofs.alone.carry.Goals as goal

pub loop-preserved : goal.loop-preserved
loop-preserved g c = (c.resume-step.ensures.of c.loop.co.co.co (c.loop.invariant, refl)).0

pub returns-in-Done-clause-of : goal.returns-in-Done-clause-of
returns-in-Done-clause-of g c = (c.resume-step.ensures.of c.loop.co.co.co (c.loop.invariant, refl)).0
