use Rattle.std.proofs.Common.{subst}
use Rattle.co_schedule.specs.Parcels.{IsStateOf}
use Rattle.co_loop.proofs.Admitted.{crew_admitted}
use Rattle.co_loop.proofs.beginning.admit_given.Goals as goal

pub returns-in-Some-clause-crew : goal.returns-in-Some-clause-crew
returns-in-Some-clause-crew g c =
    let o = c.args.crew.now.store.origin in
    (crew_admitted g.C.Origin.is_of c.args.shared.now c.args.crew.now c.admit.new.crew c.args.co c.in-Some.state c.requires.below
    (subst (IsStateOf g.C.Origin.is_of c.args.co o) c.in-Some.is c.requires.of) c.admit.ensures.same c.admit.ensures.admits c.admit.ensures.others.0 c.admit.ensures.others.1 c.admit.ensures.others.2 c.admit.ensures.others.3 c.requires.crew).0
