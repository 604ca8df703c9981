use Rattle.std.proofs.Common.{◌≡◌, subst, inl, inr, arith}
use Rattle.std.proofs.lemmas.Bool.{cases_lt}
use Rattle.aio_chain.specs.Nodes.{PointsAt}
use Rattle.aio_chain.proofs.links.unlinked.Goals as goal

pub returns-clause-alone : goal.returns-clause-alone
returns-clause-alone c = λ k h. elim (cases_lt k c.args.room) [
  | inl low ↦ c.loop-i.invariant.low k (omega arith)
  | inr at_end ↦
      let e : c.args.room ≡ k = omega arith in
      subst (λ x. PointsAt c.loop-i.nodes.items x x x) e c.loop-i.invariant.last
]
