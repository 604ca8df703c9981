use Rattle.std.proofs.Common.{◌≡◌, ◌*◌, ◌-◌, ◌<◌, get_or}
use Rattle.aio_timers.proofs.key_tree.KeyTree.lowest.Given as goal

abbrev pub invariant-loop-node : goal.invariant-loop-node
invariant-loop-node l = record {
  some : 0 < l.node;
  within : l.node < 2 * l.self-inside.leaves;
  least : get_or l.self-inside.nodes.items l.node 0 ≡ get_or l.self-inside.nodes.items 1 0;
}

abbrev pub decreases-loop-node : goal.decreases-loop-node
decreases-loop-node l = 2 * l.self-inside.leaves - l.node
