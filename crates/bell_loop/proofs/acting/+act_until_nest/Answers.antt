use Rattle.std.proofs.Common.{sym, ◌∙◌}
use Rattle.bell_loop.proofs.Actions.{ActsAll-first}
use Rattle.bell_loop.proofs.acting.+act_until_nest.Goals as goal

pub returns-else-is_nest-clause-acts : goal.returns-else-is_nest-clause-acts
returns-else-is_nest-clause-acts g t c =
    ActsAll-first c.args.todo.now _ _ _ _ c.in-len1-up.len_at_least (sym c.is_nest.ensures ∙ c.if-is_nest.false) c.act_once.ensures.acts c.act_until_nest.ensures.acts
