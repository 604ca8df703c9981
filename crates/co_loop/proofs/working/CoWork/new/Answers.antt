use Rattle.co_loop.proofs.Stationed.{nobody_works}
use Rattle.co_loop.proofs.working.CoWork.new.Goals as goal

pub returns-clause-begins : goal.returns-clause-begins
returns-clause-begins g c origin shared loop can =
    record {
      fits = nobody_works g.C.Origin.is_of origin shared loop c.args.crew c.args.run can;
      own = can.own;
      timers = can.timers;
    }
