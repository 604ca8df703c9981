use Rattle.std.proofs.Common.{ap, sym}
use Rattle.co_state.specs.Coroutines.{Coroutines}
use Rattle.co_loop.proofs.Nobody.{crew_of_nobody}
use Rattle.co_loop.proofs.on_loop.CoLoop.new.Goals as goal

pub returns-clause-fits : goal.returns-clause-fits
returns-clause-fits g c =
    record {
      is_crew = crew_of_nobody g.C.Origin.is_of c.args.shared.now (g.C.Co.source_of c.args.env.now) c.args.crew c.requires.crew c.requires.row c.requires.of c.requires.own;
      origin = sym (ap (λ (s : Coroutines g.row.C.Denot g.row.C-Source.Denot). s.origin) c.requires.crew.store);
      home_of = c.requires.home.home_of;
      idle = c.requires.home.idle;
    }
