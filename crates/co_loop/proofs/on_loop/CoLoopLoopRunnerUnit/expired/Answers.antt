use Rattle.std.proofs.Common.{◌∙◌, ◌≤◌, sym, subst, slice_index_or}
use Rattle.co_loop.specs.Begins.{IsHomeRun}
use Rattle.co_loop.proofs.on_loop.CoLoopLoopRunnerUnit.expired.Goals as goal

pub returns-clause-can_run : goal.returns-clause-can_run
returns-clause-can_run g c =
    let was = c.requires.can_run.0 in
    let now = c.expire.ensures in
    let me = c.args.self.now in (
      record {
        is_crew = now.crew;
        origin = was.origin ∙ sym now.origin;
        home_of = λ t. subst (λ k. IsHomeRun (slice_index_or me.shared.now k t).coroutines me.home me.run) (sym now.same.own) (was.home_of t);
        idle = was.idle;
      },
      subst (λ n. n ≤ c.args._side.now.timers.made) (sym now.same.coroutines) c.requires.can_run.1,
    )
