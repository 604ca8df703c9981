use Rattle.std.proofs.Common.{◌≡◌}
use Rattle.co_state.specs.Lookup.{shape, sought}
use Rattle.co_state.proofs.tree.key_of.Given as goal

abbrev pub invariant-loop-below : goal.invariant-loop-below
invariant-loop-below l = sought (shape l.below) l.fn.id l.rest ≡ sought (shape l.fn.tree) l.fn.id l.fn.id
