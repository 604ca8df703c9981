use Rattle.std.proofs.Common.{◌∙◌, ap, sym}
use Rattle.co_loop.specs.Again.{is_kept}
use Rattle.co_loop.specs.Crews.{far}
use Rattle.co_loop.proofs.Posted.{none_to_post}
use Rattle.co_loop.proofs.again.post_all_kept.Goals as goal

pub returns-else-keeps-clause-posts : goal.returns-else-keeps-clause-posts
returns-else-keeps-clause-posts g c =
    none_to_post c.args.crew.now.coroutines (far c.args.crew.now) (ap is_kept (sym c.deref.ensures.value) ∙ sym c.keeps.ensures ∙ c.if-keeps.false)
