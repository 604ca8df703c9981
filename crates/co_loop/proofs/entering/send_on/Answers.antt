use Rattle.std.proofs.Common.{◌∙◌, sym, subst, length, length-set, ◌<◌}
use Rattle.co_loop.proofs.Kept.{kept_is, one_more_kept}
use Rattle.co_loop.proofs.entering.send_on.Goals as goal

pub returns-in-Err-clause-crew : goal.returns-in-Err-clause-crew
returns-in-Err-clause-crew g c =
    let was = c.requires.crew in
    record {
      own = was.own;
      row = c.post_to.ensures.row;
      of = was.of;
      room = was.room;
      within = was.within;
      naps = was.naps;
      leaving = length-set c.args.crew.now.leaving.items c.args.co c.kept.result ∙ was.leaving;
      ended = was.ended;
      kept = one_more_kept g.C.Origin.is_of (length c.args.shared.now) c.args.crew.now.store c.args.crew.now.leaving.items c.args.co c.args.to c.args.state c.kept.result (subst (λ l. c.args.co < l) (sym was.leaving) c.requires.below) c.requires.to c.requires.of c.requires.apart
          (kept_is c.in-Err.field-0.state c.args.to c.args.state c.kept.result c.in-Err.ensures.posts.0 c.kept.ensures) was.kept;
      ended_of = was.ended_of;
    }
