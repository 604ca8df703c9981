use Rattle.std.proofs.Common.{◌≡◌, ◌*◌, ◌<◌, drop, length}
use Rattle.aio_timers.proofs.Treed.{AllButAbove}
use Rattle.aio_timers.proofs.key_tree.KeyTree.set.Given as goal

abbrev pub invariant-loop-node : goal.invariant-loop-node
invariant-loop-node l = record {
  some : 0 < l.node;
  within : l.node < 2 * l.self-inside.leaves;
  sized : length l.self-inside.nodes.items ≡ 2 * l.self-inside.leaves;
  leaves : l.self-inside.leaves ≡ l.initial.self-inside.leaves;
  lesser : AllButAbove l.self-inside.nodes.items l.self-inside.leaves l.node;
  keys : drop l.self-inside.leaves l.self-inside.nodes.items ≡ drop l.self-inside.leaves l.initial.self-inside.nodes.items;
}

abbrev pub decreases-loop-node : goal.decreases-loop-node
decreases-loop-node l = l.node
