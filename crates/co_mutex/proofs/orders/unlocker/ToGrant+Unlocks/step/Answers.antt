use Rattle.std.proofs.Common.{ℕ, ap, ◌∙◌}
use Rattle.co_mutex.specs.Places.{side_of}
use Rattle.co_mutex.proofs.Codes.{M}
use Rattle.co_mutex.proofs.WakeCodes.{roomy}
use Rattle.co_mutex.proofs.Stepping.{on_duty, free_hand, granted_away}
use Rattle.co_mutex.proofs.orders.unlocker.ToGrant+Unlocks.step.Goals as goal

pub store_grant-requires-clause-duty : goal.store_grant-requires-clause-duty
store_grant-requires-clause-duty c =
    let place = ap (λ (z : M ℕ). z.0.place) c.put_list.ensures.list ∙ c.args.self.place in
    (c.args.self.who, c.args.self.list.waiting, c.args.self.list.last, on_duty _ _ _ place, ap (λ (z : M ℕ). z.1) c.put_list.ensures.list ∙ roomy c.args.self.list c.args.self.room)

pub invariant_of-result-clause-place : goal.invariant_of-result-clause-place
invariant_of-result-clause-place c =
    let place = ap (λ (z : M ℕ). z.0.place) c.put_list.ensures.list ∙ c.args.self.place in
    let side = ap (λ (z : M ℕ). side_of z.0.place) c.put_list.ensures.list ∙ c.args.self.side in
    granted_away _ _ _ _ _ _ (c.store_grant.ensures.step c.args.self.who c.args.self.list.waiting (on_duty _ _ _ place)) side

pub invariant_of-result-clause-hand : goal.invariant_of-result-clause-hand
invariant_of-result-clause-hand c =
    let place = ap (λ (z : M ℕ). z.0.place) c.put_list.ensures.list ∙ c.args.self.place in
    let side = ap (λ (z : M ℕ). side_of z.0.place) c.put_list.ensures.list ∙ c.args.self.side in
    free_hand _ _ _ _ _ _ (c.store_grant.ensures.step c.args.self.who c.args.self.list.waiting (on_duty _ _ _ place))
