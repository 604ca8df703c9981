use Rattle.std.proofs.Common.{◌≤◌, subst}
use Rattle.co_state.specs.Lookup.{Table, shape, depth_of}
use Rattle.co_state.proofs.Depth.{is_shallow}
use Rattle.co_state.proofs.directory.Directory.key.Goals as goal

pub returns-clause-shallow : goal.returns-clause-shallow
returns-clause-shallow c = subst (λ (t : Table). depth_of (shape t.tree) ≤ 33) c.self.view_is (is_shallow (shape c.self.inside.tree) c.self.invariant.0 c.self.invariant.3)
