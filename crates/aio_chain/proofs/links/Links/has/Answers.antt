use Rattle.std.proofs.Common.{◌∙◌, ap, arith, not, eqb}
use Rattle.std.proofs.lemmas.List.{get_or_read}
use Rattle.aio_chain.specs.LinkList.{contains}
use Rattle.aio_chain.specs.Nodes.{next_of_node, prev_in, no_node, items_in}
use Rattle.aio_chain.proofs.Calls.{has_is}
use Rattle.aio_chain.proofs.links.Links.has.Goals as goal

pub returns-then-i-self-clause-has : goal.returns-then-i-self-clause-has
returns-then-i-self-clause-has c =
    let nodes = c.self.inside.nodes.items in
    let end = c.self.inside.end in
    let i = c.args.i in
    let read = get_or_read nodes i c.index.result.now (omega (arith, c.self.invariant.sized)) c.index.ensures no_node in
    ap (λ n. not (eqb n.next i)) read ∙ has_is (next_of_node nodes) (prev_in nodes) end (items_in nodes end) c.self.invariant.circle i (omega arith)
    ∙ ap (λ list. contains i list.items) c.self.view_is
