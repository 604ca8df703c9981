use Rattle.std.proofs.Common.{◌≡◌, ◌<◌, ◌++◌, ◌∷◌, [], ◌∙◌, sym, ap, subst, arith, false, length, drop, take}
use Rattle.aio_chain.specs.LinkList.{contains}
use Rattle.aio_chain.specs.Nodes.{next_of_node, prev_in, items_in}
use Rattle.aio_chain.proofs.Circles.{Keeps}
use Rattle.aio_chain.proofs.Calls.{last_low, pushed}
use Rattle.aio_chain.proofs.links.Links.push_back.Goals as goal

pub insert-requires-clause-before_in : goal.insert-requires-clause-before_in
insert-requires-clause-before_in c =
    let nodes = c.self.inside.nodes.items in
    let end = c.self.inside.end in
    let low = last_low (next_of_node nodes) (prev_in nodes) end (items_in nodes end) c.self.invariant.circle in
    subst (λ ns. prev_in ns end < length ns) (sym c.deref_mut.ensures.value) (omega (arith, low, c.self.invariant.sized))

-- the nodes keep the new list
keeps : (c : goal.After-self-1) → let end = c.self.inside.end in let left = c.insert.new.nodes in
    Keeps (take c.self.inside.nodes.len (left ++ drop (length left) c.self.inside.nodes.items)) end (items_in c.self.inside.nodes.items end ++ c.args.i ∷ [])
keeps c =
    let nodes = c.self.inside.nodes.items in
    let end = c.self.inside.end in
    let left = c.insert.new.nodes in
    let room = ap (λ list. list.room) c.self.view_is in
    let absent : contains c.args.i (items_in nodes end) ≡ false = ap (λ list. contains c.args.i list.items) c.self.view_is ∙ c.requires.absent in
    pushed nodes c.deref_mut.result.now left (drop (length left) nodes) end c.self.inside.nodes.len c.deref_mut.ensures.value c.self.invariant c.insert.auto.nodes c.self.inside.nodes.ok.0 c.args.i (omega (arith, c.requires.below)) absent c.insert.ensures

pub invariant_of-self : goal.invariant_of-self
invariant_of-self c = (keeps c).placed

pub returns-clause-items : goal.returns-clause-items
returns-clause-items c = (keeps c).items_are ∙ ap (λ list. list.items ++ c.args.i ∷ []) c.self.view_is
