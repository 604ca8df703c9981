use Rattle.std.proofs.Common.{◌∙◌, ap, sym, subst, slice_index_or}
use Rattle.co_state.specs.Coroutines.{Coroutines}
use Rattle.co_loop.specs.Begins.{IsHomeRun}
use Rattle.co_loop.proofs.on_loop.CoLoop.end_turn.Goals as goal

pub returns-clause-fits : goal.returns-clause-fits
returns-clause-fits g c =
    let was = c.requires.fits in
    let now = c.post_all_kept.ensures in
    let me = c.args.self.now in
    record {
      is_crew = now.crew;
      origin = was.origin ∙ sym (ap (λ (s : Coroutines g.row.C.Denot g.row.C-Source.Denot). s.origin) now.store);
      home_of = λ t. subst (λ k. IsHomeRun (slice_index_or me.shared.now k t).coroutines me.home me.run) (sym now.same.own) (was.home_of t);
      idle = was.idle;
    }
