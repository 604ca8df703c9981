use Rattle.std.proofs.Common.{is_none, Some, sym, ap, ◌∙◌}
use Rattle.co_state.specs.declared.tree.Node.{Node}
use Rattle.co_state.specs.Lookup.{shape, root_of, popped}
use Rattle.co_state.proofs.Trees.{pop_zero, pop_one, not_rooted}
use Rattle.co_state.proofs.tree.+pop.Goals as goal

pub returns-then-not-is_empty-clause-left : goal.returns-then-not-is_empty-clause-left
returns-then-not-is_empty-clause-left t c =
    let told = c.in_ok-spare.ensures in
    let before = c.deref_mut.ensures.value in
    let node = c.deref_mut-then-not-is_empty.ensures.value in
    pop_zero _ _ _ _ _ _ _ (ap shape c.in-Fork.is)
    (ap (λ (n : Node). root_of (shape n.zero)) (sym before) ∙ told.was ∙ ap (λ (n : Node). Some n.entry) (sym c.deref_mut-then-not-is_empty-2.ensures.value) ∙ ap (λ (n : Node). Some n.entry) (sym c.exchange.ensures.node))
    (ap (λ (n : Node). shape n.zero) c.exchange.ensures.node ∙ ap (λ (n : Node). shape n.zero) node ∙ told.left ∙ ap (λ (n : Node). popped (shape n.zero)) before)
    (ap (λ (n : Node). shape n.one) c.exchange.ensures.node ∙ ap (λ (n : Node). shape n.one) node ∙ ap (λ (n : Node). shape n.one) before)

pub returns-then-not-is_empty-clause-was : goal.returns-then-not-is_empty-clause-was
returns-then-not-is_empty-clause-was t c =
    let before = c.deref_mut.ensures.value in
    let node = c.deref_mut-then-not-is_empty.ensures.value in
    ap (λ tree. root_of (shape tree)) c.in-Fork.is ∙ ap (λ (n : Node). Some n.entry) (sym before) ∙ ap (λ (n : Node). Some n.entry) (sym node) ∙ ap Some (sym c.exchange.ensures.spare)

pub returns-then-not-is_empty-2-clause-left : goal.returns-then-not-is_empty-2-clause-left
returns-then-not-is_empty-2-clause-left t c =
    let told = c.in_ok-spare-2.ensures in
    let before = c.deref_mut-then-not-is_empty-2-2.ensures.value in
    let node = c.deref_mut-then-not-is_empty-2-3.ensures.value in
    pop_one _ _ _ _ _ _ _ (ap shape c.in-Fork.is)
    (not_rooted _ (ap (λ (n : Node). is_none (root_of (shape n.zero))) (sym c.deref.ensures) ∙ sym c.is_empty.ensures ∙ c.if-not-is_empty.false))
    (ap (λ (n : Node). root_of (shape n.one)) (sym before) ∙ told.was ∙ ap (λ (n : Node). Some n.entry) (sym c.deref_mut-then-not-is_empty-2-4.ensures.value) ∙ ap (λ (n : Node). Some n.entry) (sym c.exchange-then-not-is_empty-2.ensures.node))
    (ap (λ (n : Node). shape n.zero) c.exchange-then-not-is_empty-2.ensures.node ∙ ap (λ (n : Node). shape n.zero) node ∙ ap (λ (n : Node). shape n.zero) before)
    (ap (λ (n : Node). shape n.one) c.exchange-then-not-is_empty-2.ensures.node ∙ ap (λ (n : Node). shape n.one) node ∙ told.left ∙ ap (λ (n : Node). popped (shape n.one)) before)

pub returns-then-not-is_empty-2-clause-was : goal.returns-then-not-is_empty-2-clause-was
returns-then-not-is_empty-2-clause-was t c =
    let before = c.deref_mut-then-not-is_empty-2-2.ensures.value in
    let node = c.deref_mut-then-not-is_empty-2-3.ensures.value in
    ap (λ tree. root_of (shape tree)) c.in-Fork.is ∙ ap (λ (n : Node). Some n.entry) (sym before) ∙ ap (λ (n : Node). Some n.entry) (sym node) ∙ ap Some (sym c.exchange-then-not-is_empty-2.ensures.spare)
