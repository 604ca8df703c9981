use Rattle.std.proofs.Common.{◌∙◌, map, option_map, sym, ap, subst}
use Rattle.aio_model.specs.Loop.Frame.{Nests, lent_of}
use Rattle.bell_loop.specs.Entering.{acts_at, CanRun, DoesEntry, notes_left}
use Rattle.bell_loop.proofs.Entries.{DoesEntry-ended, DoesEntry-nested, behind_within}
use Rattle.bell_loop.proofs.callbacks.CallbacksRunnerTag.run.Goals as goal

pub returns-in-None-clause-runs : goal.returns-in-None-clause-runs
returns-in-None-clause-runs g c =
    let all = c.act_until_nest.ensures.acts in
    let acts = acts_at (map (λ l. l.items) c.args.self.now.lists.now) in
    record {
      made = all.made;
      back = all.back;
      did = (
        ap (λ s. s.lists) c.begin-todo.ensures.rest,
        DoesEntry-ended acts c.args.call.now.bh (option_map (λ t. t.tag) c.args.call.now.job) c.args.call.now.first c.args.call.now.nests_left c.begin-todo.result.now all.made _ _ _ _ _ _ _ _ c.begin-todo.ensures.names c.begin-todo.ensures.finds all.adds c.begin-todo.ensures.rang c.in-None.ensures.later,
      );
    }

pub returns-in-Some-clause-can_run : goal.returns-in-Some-clause-can_run
returns-in-Some-clause-can_run g c =
    let within = c.begin-todo.ensures.within c.args.table.now.sizes.handles c.requires.can_run in
    let lists_are = ap (λ s. s.lists) c.wait_behind.ensures.rest ∙ ap (λ s. s.lists) c.begin-todo.ensures.rest in
    let before = c.requires.can_run in
    subst (λ l. CanRun c.args.table.now.sizes.handles (map (λ l. l.items) l.now) c.wait_behind.new.self.waiting) (sym lists_are) record {
      within = before.within;
      waits = c.wait_behind.ensures.within c.args.table.now.sizes.handles (behind_within _ _ _ within.0 c.in-Some.ensures.later) within.1;
    }

pub returns-in-Some-clause-runs : goal.returns-in-Some-clause-runs
returns-in-Some-clause-runs g c =
    let all = c.act_until_nest.ensures.acts in
    let acts = acts_at (map (λ l. l.items) c.args.self.now.lists.now) in
    let lent = lent_of c.args.call.now.bh (option_map (λ t. t.tag) c.args.call.now.job) c.args.call.now.first c.args.call.now.nests_left in
    let before = notes_left c.args.self.now.waiting c.args.self.now.ran c.args.self.now.more c.args.self.now.rang in
    record {
      made = all.made;
      back = all.back;
      did = (
        ap (λ s. s.lists) c.wait_behind.ensures.rest ∙ ap (λ s. s.lists) c.begin-todo.ensures.rest,
        subst (λ s. DoesEntry acts before (record { lent = lent; answer = Nests; made = all.made }) (notes_left s.waiting s.ran s.more s.rang)) (sym c.wait_behind.ensures.rest)
            (DoesEntry-nested acts c.args.call.now.bh (option_map (λ t. t.tag) c.args.call.now.job) c.args.call.now.first c.args.call.now.nests_left c.begin-todo.result.now all.made _ _ _ _ _ _ _ _ c.begin-todo.ensures.names c.begin-todo.ensures.finds all.adds c.begin-todo.ensures.rang c.in-Some.later.now _ c.in-Some.ensures.later c.wait_behind.ensures.waiting),
      );
    }

pub act_until_nest-requires-clause-within : goal.act_until_nest-requires-clause-within
act_until_nest-requires-clause-within g c = (c.begin-todo.ensures.within c.args.table.now.sizes.handles c.requires.can_run).0

pub returns-in-None-clause-can_run : goal.returns-in-None-clause-can_run
returns-in-None-clause-can_run g c =
    let within = c.begin-todo.ensures.within c.args.table.now.sizes.handles c.requires.can_run in
    let lists_are = ap (λ s. s.lists) c.begin-todo.ensures.rest in
    let before = c.requires.can_run in
    subst (λ l. CanRun c.args.table.now.sizes.handles (map (λ l. l.items) l.now) c.begin-todo.new.self.waiting) (sym lists_are) record {
      within = before.within;
      waits = within.1;
    }
