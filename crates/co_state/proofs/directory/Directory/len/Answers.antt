use Rattle.std.proofs.Common.{◌∙◌, length, sym, ap, subst}
use Rattle.co_state.specs.Lookup.{Table, shape, ids_in, AreListed}
use Rattle.co_state.proofs.Trees.{length_ids, are_listed}
use Rattle.co_state.proofs.directory.Directory.len.Goals as goal

pub returns-clause-len : goal.returns-clause-len
returns-clause-len c = c.self.invariant.1 ∙ sym (length_ids (shape c.self.inside.tree)) ∙ ap (λ (t : Table). length (ids_in (shape t.tree))) c.self.view_is

pub returns-clause-listed : goal.returns-clause-listed
returns-clause-listed c = subst (λ (t : Table). AreListed (shape t.tree)) c.self.view_is (are_listed (shape c.self.inside.tree) c.self.invariant.0)
