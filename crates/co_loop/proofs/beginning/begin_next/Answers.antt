use Rattle.std.proofs.Common.{length}
use Rattle.co_loop.specs.Crews.{far}
use Rattle.co_loop.proofs.Begun.{begins_one}
use Rattle.co_loop.proofs.beginning.begin_next.Goals as goal

pub returns-clause-begins : goal.returns-clause-begins
returns-clause-begins g c =
    begins_one g.C.Origin.is_of g.C.Co.resumes c.args.crew.now.own c.args.crew.now.coroutines (length c.args.shared.now) c.admit_given.new.crew.own c.admit_given.new.crew.coroutines c.in-Some.co c.in-Some.given (far c.args.crew.now) (far c.admit_given.new.crew) (far c.enter.new.crew) c.args.home.now.known c.begin.new.home.known
    c.admit_given.ensures.same.own c.admit_given.ensures.same.coroutines c.in-Some.ensures.begun.1 c.admit_given.ensures.admits c.enter.ensures.enters
