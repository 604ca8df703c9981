use Rattle.std.proofs.Common.{length}
use Rattle.co_loop.specs.Crews.{far}
use Rattle.co_loop.proofs.Drained.{entered_and_drained}
use Rattle.co_loop.proofs.draining.enter.Goals as goal

pub returns-clause-enters : goal.returns-clause-enters
returns-clause-enters g c =
    entered_and_drained g.C.Origin.is_of g.C.Co.resumes c.args.crew.now.own c.args.crew.now.coroutines (length c.args.shared.now) c.enter_one.new.crew.own c.enter_one.new.crew.coroutines c.args.co (far c.args.crew.now) (far c.enter_one.new.crew) (far c.drain.new.crew) c.enter_one.ensures.same.own c.enter_one.ensures.same.coroutines c.enter_one.ensures.enters c.drain.ensures.drains
