use Rattle.std.proofs.Common.{◌≡◌, ℕ, ◌+◌, ◌-◌, ◌≤◌, ◌<◌, length, get_or, ap, subst, arith}
use Rattle.aio_timers.specs.Keys.{key_at}
use Rattle.aio_timers.proofs.Treed.{length_keys, key_is, lower}
use Rattle.aio_timers.proofs.key_tree.KeyTree.lowest.Goals as goal

pub returns-clause-least : goal.returns-clause-least
returns-clause-least c =
    let nodes = c.self.inside.nodes.items in
    let leaves = c.self.inside.leaves in
    let tree = c.self.invariant in
    let node = c.loop-node.node in
    let outer = c.loop-node-test.false in
    let mine = key_is nodes leaves tree (node - leaves) (omega (arith, length_keys nodes leaves tree, c.loop-node.invariant.within)) in
    let same : get_or nodes (leaves + (node - leaves)) 0 ≡ get_or nodes node 0 = ap (λ n. get_or nodes n 0) (omega arith) in
    subst (λ keys. (place : ℕ) → place < length keys → key_at keys (node - leaves) ≤ key_at keys place) c.self.view_is (λ place within. omega (arith, mine, same, c.loop-node.invariant.least, lower nodes leaves tree place within))
