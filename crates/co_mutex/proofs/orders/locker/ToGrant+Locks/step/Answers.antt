use Rattle.std.proofs.Common.{ℕ, sym, ap, ◌∙◌}
use Rattle.co_mutex.specs.Places.{side_of}
use Rattle.co_mutex.proofs.Codes.{M}
use Rattle.co_mutex.proofs.WakeCodes.{roomy}
use Rattle.co_mutex.proofs.Stepping.{on_duty, free_hand, granted_self, granted_other}
use Rattle.co_mutex.proofs.orders.locker.ToGrant+Locks.step.Goals as goal

pub store_grant-requires-clause-duty : goal.store_grant-requires-clause-duty
store_grant-requires-clause-duty c =
    let place = ap (λ (z : M ℕ). z.0.place) c.put_list.ensures.list ∙ c.args.self.place in
    (c.args.self.who, c.args.self.list.waiting, c.args.self.list.last, on_duty _ _ _ place, ap (λ (z : M ℕ). z.1) c.put_list.ensures.list ∙ roomy c.args.self.list c.args.self.room)

pub invariant_of-result-clause-place : goal.invariant_of-result-clause-place
invariant_of-result-clause-place c =
    let place = ap (λ (z : M ℕ). z.0.place) c.put_list.ensures.list ∙ c.args.self.place in
    let side = ap (λ (z : M ℕ). side_of z.0.place) c.put_list.ensures.list ∙ c.args.self.side in
    granted_self _ _ _ _ _ _ (c.store_grant.ensures.step c.args.self.who c.args.self.list.waiting (on_duty _ _ _ place)) side (c.if-q-pass.true ∙ c.store_grant.ensures.pass.number)

pub invariant_of-result-clause-hand : goal.invariant_of-result-clause-hand
invariant_of-result-clause-hand c =
    let place = ap (λ (z : M ℕ). z.0.place) c.put_list.ensures.list ∙ c.args.self.place in
    let side = ap (λ (z : M ℕ). side_of z.0.place) c.put_list.ensures.list ∙ c.args.self.side in
    free_hand _ _ _ _ _ _ (c.store_grant.ensures.step c.args.self.who c.args.self.list.waiting (on_duty _ _ _ place))

pub invariant_of-result-2-clause-place : goal.invariant_of-result-2-clause-place
invariant_of-result-2-clause-place c =
    let place = ap (λ (z : M ℕ). z.0.place) c.put_list.ensures.list ∙ c.args.self.place in
    let side = ap (λ (z : M ℕ). side_of z.0.place) c.put_list.ensures.list ∙ c.args.self.side in
    granted_other _ _ _ _ _ _ (c.store_grant.ensures.step c.args.self.who c.args.self.list.waiting (on_duty _ _ _ place)) side (λ h. c.if-q-pass.false (h ∙ sym c.store_grant.ensures.pass.number))

pub invariant_of-result-2-clause-hand : goal.invariant_of-result-2-clause-hand
invariant_of-result-2-clause-hand c =
    let place = ap (λ (z : M ℕ). z.0.place) c.put_list.ensures.list ∙ c.args.self.place in
    let side = ap (λ (z : M ℕ). side_of z.0.place) c.put_list.ensures.list ∙ c.args.self.side in
    free_hand _ _ _ _ _ _ (c.store_grant.ensures.step c.args.self.who c.args.self.list.waiting (on_duty _ _ _ place))
