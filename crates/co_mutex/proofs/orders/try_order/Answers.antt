use Rattle.co_mutex.proofs.Decks.{new_rest, last_one, before_it}
use Rattle.co_mutex.proofs.Stepping.{resting_hand}
use Rattle.co_mutex.proofs.orders.try_order.Goals as goal

pub invariant_of-locker-clause-of : goal.invariant_of-locker-clause-of
invariant_of-locker-clause-of g c =
    (last_one c.in-Ok.lock _ c.pop.new.self.items c.in-Some-Some.pass c.in-Some-Some.ensures.items (λ k p at. new_rest c.in-Ok.lock k p (c.in-Ok.ensures.passes.1 k p at))).0.of

pub invariant_of-locker-clause-place : goal.invariant_of-locker-clause-place
invariant_of-locker-clause-place g c =
    (last_one c.in-Ok.lock _ c.pop.new.self.items c.in-Some-Some.pass c.in-Some-Some.ensures.items (λ k p at. new_rest c.in-Ok.lock k p (c.in-Ok.ensures.passes.1 k p at))).1

pub invariant_of-locker-clause-hand : goal.invariant_of-locker-clause-hand
invariant_of-locker-clause-hand g c =
    resting_hand c.in-Ok.lock _ _ (last_one c.in-Ok.lock _ c.pop.new.self.items c.in-Some-Some.pass c.in-Some-Some.ensures.items (λ k p at. new_rest c.in-Ok.lock k p (c.in-Ok.ensures.passes.1 k p at)))

pub holder-requires-clause-pass : goal.holder-requires-clause-pass
holder-requires-clause-pass g c =
    (last_one c.in-Ok.lock _ c.pop-2.new.self.items c.in-Some-Some.first c.in-Some-Some.ensures'.items (before_it c.in-Ok.lock _ c.pop.new.self.items c.in-Some-Some.pass c.in-Some-Some.ensures.items (λ k p at. new_rest c.in-Ok.lock k p (c.in-Ok.ensures.passes.1 k p at)))).0

pub holder-requires-clause-rest : goal.holder-requires-clause-rest
holder-requires-clause-rest g c =
    (last_one c.in-Ok.lock _ c.pop-2.new.self.items c.in-Some-Some.first c.in-Some-Some.ensures'.items (before_it c.in-Ok.lock _ c.pop.new.self.items c.in-Some-Some.pass c.in-Some-Some.ensures.items (λ k p at. new_rest c.in-Ok.lock k p (c.in-Ok.ensures.passes.1 k p at)))).1
