use Rattle.std.proofs.Common.{ap, sym, ◌∙◌}
use mathlib.Core.Option.{some-injective}
use lib.ListN.{get_elem?}
use Rattle.co_mutex.specs.Opening.{part_of}
use Rattle.co_mutex.specs.Passes.{known}
use Rattle.co_mutex.proofs.OwnerSteps.{value_same}
use Rattle.co_mutex.proofs.Gathering.{ends}
use Rattle.co_mutex.proofs.lock.CoMutex.close.Goals as goal

pub unreachable-requires : goal.unreachable-requires
unreachable-requires g c =
    let e = ends g.P.LockRule.note c.args.self.table.shared.key.passes c.args.self.table.shared.key.value.value c.gather-all.result.id c.gather-all.result.me.0 _ _ c.close_with-closed.ensures.values.2 c.gather-all.ensures.live c.gather-all.ensures.rest (λ k h. let u = c.requires.1.all k h in (part_of (known u.0), c.gather-all.ensures.parts u.0 u.1, u.2)) in
    c.in_default.not-Value _ (some-injective _ _ (sym c.take-first.ensures.value ∙ e.value))

pub unreachable-requires-in_default-second : goal.unreachable-requires-in_default-second
unreachable-requires-in_default-second g c =
    let e = ends g.P.LockRule.note c.args.self.table.shared.key.passes c.args.self.table.shared.key.value.value c.gather-all.result.id c.gather-all.result.me.0 _ _ c.close_with-closed.ensures.values.2 c.gather-all.ensures.live c.gather-all.ensures.rest (λ k h. let u = c.requires.1.all k h in (part_of (known u.0), c.gather-all.ensures.parts u.0 u.1, u.2)) in
    c.in_default-second.not-Waiters _ (some-injective _ _ (sym c.take-second.ensures.value ∙ ap (λ l. get_elem? l 1) c.take-first.ensures.others.0 ∙ e.list.2))

pub returns : goal.returns
returns g c =
    let e = ends g.P.LockRule.note c.args.self.table.shared.key.passes c.args.self.table.shared.key.value.value c.gather-all.result.id c.gather-all.result.me.0 _ _ c.close_with-closed.ensures.values.2 c.gather-all.ensures.live c.gather-all.ensures.rest (λ k h. let u = c.requires.1.all k h in (part_of (known u.0), c.gather-all.ensures.parts u.0 u.1, u.2)) in (
      e.history,
      record { legal = e.legal; noted = e.noted; below = e.below; seen = λ p t. (e.each (part_of (known p)) (c.gather-all.ensures.parts p t)).0; mine = λ p t. (e.each (part_of (known p)) (c.gather-all.ensures.parts p t)).1 },
      value_same _ _ (sym c.in-Value.is ∙ some-injective _ _ (sym c.take-first.ensures.value ∙ e.value)),
    )
