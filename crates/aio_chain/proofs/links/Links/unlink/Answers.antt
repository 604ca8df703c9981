use Rattle.std.proofs.Common.{◌≡◌, ◌<◌, ◌++◌, ◌∙◌, sym, ap, subst, arith, true, length, drop, take}
use Rattle.aio_chain.specs.LinkList.{contains, without}
use Rattle.aio_chain.specs.Nodes.{next_of_node, prev_in, items_in}
use Rattle.aio_chain.proofs.Circles.{Keeps}
use Rattle.aio_chain.proofs.Calls.{prev_low, next_low, unlinked}
use Rattle.aio_chain.proofs.links.Links.unlink.Goals as goal

pub remove-requires-clause-before_in : goal.remove-requires-clause-before_in
remove-requires-clause-before_in c =
    let nodes = c.self.inside.nodes.items in
    let end = c.self.inside.end in
    let here : contains c.args.i (items_in nodes end) ≡ true = ap (λ list. contains c.args.i list.items) c.self.view_is ∙ c.requires in
    let low = prev_low (next_of_node nodes) (prev_in nodes) end (items_in nodes end) c.self.invariant.circle c.args.i here in
    subst (λ ns. prev_in ns c.args.i < length ns) (sym c.deref_mut.ensures.value) (omega (arith, low, c.self.invariant.sized))

pub remove-requires-clause-behind_in : goal.remove-requires-clause-behind_in
remove-requires-clause-behind_in c =
    let nodes = c.self.inside.nodes.items in
    let end = c.self.inside.end in
    let here : contains c.args.i (items_in nodes end) ≡ true = ap (λ list. contains c.args.i list.items) c.self.view_is ∙ c.requires in
    let low = next_low (next_of_node nodes) (prev_in nodes) end (items_in nodes end) c.self.invariant.circle c.args.i here in
    subst (λ ns. next_of_node ns c.args.i < length ns) (sym c.deref_mut.ensures.value) (omega (arith, low, c.self.invariant.sized))

-- the nodes keep the new list
keeps : (c : goal.After-self-1) → let end = c.self.inside.end in let left = c.remove.new.nodes in
    Keeps (take c.self.inside.nodes.len (left ++ drop (length left) c.self.inside.nodes.items)) end (without c.args.i (items_in c.self.inside.nodes.items end))
keeps c =
    let nodes = c.self.inside.nodes.items in
    let end = c.self.inside.end in
    let left = c.remove.new.nodes in
    let room = ap (λ list. list.room) c.self.view_is in
    let here : contains c.args.i (items_in nodes end) ≡ true = ap (λ list. contains c.args.i list.items) c.self.view_is ∙ c.requires in
    unlinked nodes c.deref_mut.result.now left (drop (length left) nodes) end c.self.inside.nodes.len c.deref_mut.ensures.value c.self.invariant c.remove.auto.nodes c.self.inside.nodes.ok.0 c.args.i here c.remove.ensures

pub invariant_of-self : goal.invariant_of-self
invariant_of-self c = (keeps c).placed

pub returns-clause-items : goal.returns-clause-items
returns-clause-items c = (keeps c).items_are ∙ ap (λ list. without c.args.i list.items) c.self.view_is
