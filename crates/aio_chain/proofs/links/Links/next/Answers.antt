use Rattle.std.proofs.Common.{◌≡◌, ◌∙◌, sym, ap, arith, true, cond, eqb, Some, None}
use Rattle.std.proofs.lemmas.List.{get_or_read}
use Rattle.aio_chain.specs.LinkList.{contains, next_after}
use Rattle.aio_chain.specs.Nodes.{next_of_node, prev_in, no_node, items_in}
use Rattle.aio_chain.proofs.Calls.{next_after_is}
use Rattle.aio_chain.proofs.links.Links.next.Goals as goal

pub returns-clause-next : goal.returns-clause-next
returns-clause-next c =
    let nodes = c.self.inside.nodes.items in
    let end = c.self.inside.end in
    let i = c.args.i in
    let here : contains i (items_in nodes end) ≡ true = ap (λ list. contains i list.items) c.self.view_is ∙ c.requires in
    let low = c.self.invariant.circle.below i here in
    let room = ap (λ list. list.room) c.self.view_is in
    let read = get_or_read nodes i c.index.result.now (omega (arith, c.self.invariant.sized)) c.index.ensures no_node in
    c.unless_end.ensures ∙ ap (λ room. cond (eqb c.index.result.now.next room) None (Some c.index.result.now.next)) (sym room)
    ∙ ap (λ n. cond (eqb n.next end) None (Some n.next)) read
    ∙ next_after_is (next_of_node nodes) (prev_in nodes) end (items_in nodes end) c.self.invariant.circle i here
    ∙ ap (λ list. next_after i list.items) c.self.view_is
