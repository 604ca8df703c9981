use Rattle.std.proofs.Common.{◌≡◌, ℕ, ◌+◌, ◌<◌, List, length}
use Rattle.aio_chain.specs.declared.links.Node.{Node}
use Rattle.aio_chain.specs.Nodes.{PointsAt}
use Rattle.aio_chain.proofs.links.unlinked.Given as goal

-- the nodes so far stand alone, and so does the last
pub record Alone (nodes : List Node) (room i : ℕ) : Type 0 where
  pub sized : length nodes ≡ room + 1
  pub low : (k : ℕ) → k < i → PointsAt nodes k k k
  pub last : PointsAt nodes room room room

abbrev pub invariant-loop-i : goal.invariant-loop-i
invariant-loop-i l = Alone l.nodes.items l.room l.i
