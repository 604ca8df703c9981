use Rattle.std.proofs.Common.{ℕ, ◌<◌, length, sym, ap, ◌∙◌, subst, arith}
use Rattle.co_mutex.specs.Places.{side_of}
use Rattle.co_mutex.specs.PoppedList.{PoppedList}
use Rattle.co_mutex.proofs.Codes.{M}
use Rattle.co_mutex.proofs.Stepping.{on_duty, ends, goes_on, walking_at}
use Rattle.co_mutex.proofs.orders.duty.ToLoadNext.step.Goals as goal

pub put_first-requires : goal.put_first-requires
put_first-requires g c =
    subst (λ z. length c.args.self.list.waiting < z) (sym c.args.self.room) (c.load_next-next.ensures.step _ _ c.args.self.place).room

pub invariant_of-result-clause-below : goal.invariant_of-result-clause-below
invariant_of-result-clause-below g c =
    subst (λ z. c.args.self.q < z) (c.args.self.of.passes ∙ sym c.load_next-next.ensures.pass.passes) c.args.self.below

pub invariant_of-result-clause-side : goal.invariant_of-result-clause-side
invariant_of-result-clause-side g c =
    ap (λ (z : M ℕ). side_of z.0.place) (ends _ _ _ _ _ _ (c.load_next-next.ensures.step _ _ c.args.self.place) c.if-next-eq0.true) ∙ c.args.self.side

pub invariant_of-result-clause-place : goal.invariant_of-result-clause-place
invariant_of-result-clause-place g c =
    on_duty _ _ _ (ap (λ (z : M ℕ). z.0.place) (ends _ _ _ _ _ _ (c.load_next-next.ensures.step _ _ c.args.self.place) c.if-next-eq0.true))

pub invariant_of-result-clause-hand : goal.invariant_of-result-clause-hand
invariant_of-result-clause-hand g c =
    ap (λ (z : M ℕ). z.1) (ends _ _ _ _ _ _ (c.load_next-next.ensures.step _ _ c.args.self.place) c.if-next-eq0.true) ∙ c.args.self.hand

pub overflow_cast-result : goal.overflow_cast-result
overflow_cast-result g c =
    let more = (c.load_next-next.ensures.step _ _ c.args.self.place).more in
    let passes = c.args.self.of.passes in
    let few = c.args.self.lock.now.few in
    omega (arith, more, passes, few)

pub invariant_of-result-2-clause-below : goal.invariant_of-result-2-clause-below
invariant_of-result-2-clause-below g c =
    let more = (c.load_next-next.ensures.step _ _ c.args.self.place).more in
    let some = c.if-next-eq0.false in
    let passes = c.args.self.of.passes in
    let same = c.load_next-next.ensures.pass.passes in
    omega (arith, more, some, passes, same)

pub invariant_of-result-2-clause-side : goal.invariant_of-result-2-clause-side
invariant_of-result-2-clause-side g c =
    ap (λ (z : M ℕ). side_of z.0.place) (goes_on _ _ _ _ _ _ (c.load_next-next.ensures.step _ _ c.args.self.place) c.if-next-eq0.false).1 ∙ c.args.self.side

pub invariant_of-result-2-clause-place : goal.invariant_of-result-2-clause-place
invariant_of-result-2-clause-place g c =
    let some = c.if-next-eq0.false in
    walking_at _ _ _ _ _ _ (c.load_next-next.ensures.step _ _ c.args.self.place) _ _ c.if-next-eq0.false (omega (arith, some)) (ap (λ (z : PoppedList). z.waiting) c.put_first.ensures)

pub invariant_of-result-2-clause-hand : goal.invariant_of-result-2-clause-hand
invariant_of-result-2-clause-hand g c =
    ap (λ (z : M ℕ). z.1) (goes_on _ _ _ _ _ _ (c.load_next-next.ensures.step _ _ c.args.self.place) c.if-next-eq0.false).1 ∙ c.args.self.hand
