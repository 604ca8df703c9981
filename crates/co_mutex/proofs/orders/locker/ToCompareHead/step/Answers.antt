use Rattle.std.proofs.Common.{ℕ, ap, ◌∙◌}
use Rattle.co_mutex.proofs.Codes.{M}
use Rattle.co_mutex.proofs.Holding.{told_true, told_false}
use Rattle.co_mutex.proofs.orders.locker.ToCompareHead.step.Goals as goal

pub invariant_of-result-clause-place : goal.invariant_of-result-clause-place
invariant_of-result-clause-place c =
    ap (λ (z : M ℕ). z.0.place) (told_true _ _ _ _ (c.compare_head.ensures.step c.args.self.who c.args.self.place) c.if-compare_head-head.true).makes.is

pub invariant_of-result-clause-hand : goal.invariant_of-result-clause-hand
invariant_of-result-clause-hand c =
    ap (λ (z : M ℕ). z.1) (told_true _ _ _ _ (c.compare_head.ensures.step c.args.self.who c.args.self.place) c.if-compare_head-head.true).makes.is ∙ c.args.self.hand

pub invariant_of-result-2-clause-place : goal.invariant_of-result-2-clause-place
invariant_of-result-2-clause-place c =
    ap (λ (z : M ℕ). z.0.place) (told_false _ _ _ _ (c.compare_head.ensures.step c.args.self.who c.args.self.place) c.if-compare_head-head.false)

pub invariant_of-result-2-clause-hand : goal.invariant_of-result-2-clause-hand
invariant_of-result-2-clause-hand c =
    ap (λ (z : M ℕ). z.1) (told_false _ _ _ _ (c.compare_head.ensures.step c.args.self.who c.args.self.place) c.if-compare_head-head.false)
