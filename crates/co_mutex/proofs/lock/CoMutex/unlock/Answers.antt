use Rattle.std.proofs.Common.{◌∙◌}
use Rattle.co_mutex.specs.Places.{side_of}
use Rattle.co_mutex.proofs.WakeOne.{swap_moved, swapped_side}
use Rattle.co_mutex.proofs.UnlockLoop.{has_list, alone_comes, again_list, wake_init, wake_none, wake_back, wake_walked, wake_grants, wake_side}
use Rattle.co_mutex.proofs.lock.CoMutex.unlock.Goals as goal

pub take_list-list-requires-clause-list : goal.take_list-list-requires-clause-list
take_list-list-requires-clause-list g c =
    has_list c.args.guard.value c.args.pass.now.seat.me.0 c.give_value.new.pass.seat.me c.give_value.result c.give_value.ensures.step c.if-give_value-eq1.false

pub loop-init : goal.loop-init
loop-init g c =
    (tt, tt, wake_init c.args.self.now c.args.guard.value c.args.pass.now c.give_value.new.pass c.take_list-list.new.pass c.take_list-list.result c.give_value.result c.give_value.ensures.step c.if-give_value-eq1.false c.take_list-list.ensures.pass c.take_list-list.ensures.list.0 c.take_list-list.ensures.list.1)

pub returns-then-give_value-eq1-clause-unlock : goal.returns-then-give_value-eq1-clause-unlock
returns-then-give_value-eq1-clause-unlock g c =
    (alone_comes c.args.guard.value c.args.pass.now.seat.me.0 c.give_value.new.pass.seat.me c.give_value.result c.give_value.ensures.step c.if-give_value-eq1.true).0

pub returns-then-give_value-eq1-clause-steps : goal.returns-then-give_value-eq1-clause-steps
returns-then-give_value-eq1-clause-steps g c =
    (alone_comes c.args.guard.value c.args.pass.now.seat.me.0 c.give_value.new.pass.seat.me c.give_value.result c.give_value.ensures.step c.if-give_value-eq1.true).1

pub returns-then-not-offer-clause-unlock : goal.returns-then-not-offer-clause-unlock
returns-then-not-offer-clause-unlock g c =
    let moved = swap_moved (side_of c.loop.pass.seat.me.0.place) c.loop.pass.seat.me c.swap_head-head.result c.swap_head-head.new.pass.seat.me c.swap_head-head.ensures.step in
    (wake_none c.args.self.now c.args.guard.value c.args.pass.now c.loop.pass c.loop.list c.loop.invariant.2 c.offer.new.pass c.swap_head-head.result c.swap_head-head.new.pass.seat.me.0 moved.0 c.offer.result moved.1 c.offer.ensures.offered c.if-not-offer.true).0

pub returns-then-not-offer-clause-steps : goal.returns-then-not-offer-clause-steps
returns-then-not-offer-clause-steps g c =
    let moved = swap_moved (side_of c.loop.pass.seat.me.0.place) c.loop.pass.seat.me c.swap_head-head.result c.swap_head-head.new.pass.seat.me c.swap_head-head.ensures.step in
    (wake_none c.args.self.now c.args.guard.value c.args.pass.now c.loop.pass c.loop.list c.loop.invariant.2 c.offer.new.pass c.swap_head-head.result c.swap_head-head.new.pass.seat.me.0 moved.0 c.offer.result moved.1 c.offer.ensures.offered c.if-not-offer.true).1

pub take_list-list-requires-then-head-eq0-clause-list : goal.take_list-list-requires-then-head-eq0-clause-list
take_list-list-requires-then-head-eq0-clause-list g c =
    again_list c.offer.result c.swap_head-head.new.pass.seat.me.0 c.offer.new.pass.seat.me c.offer.ensures.offered c.if-not-offer.false

pub loop-preserved-then-head-eq0 : goal.loop-preserved-then-head-eq0
loop-preserved-then-head-eq0 g c =
    let moved = swap_moved (side_of c.loop.pass.seat.me.0.place) c.loop.pass.seat.me c.swap_head-head.result c.swap_head-head.new.pass.seat.me c.swap_head-head.ensures.step in
    (tt, tt, wake_back c.args.self.now c.args.guard.value c.args.pass.now c.loop.pass c.loop.list c.loop.invariant.2 c.offer.new.pass c.take_list-list-then-head-eq0.new.pass c.take_list-list-then-head-eq0.result c.swap_head-head.result c.swap_head-head.new.pass.seat.me.0 moved.0 c.offer.result moved.1 c.offer.ensures.offered c.if-not-offer.false c.take_list-list-then-head-eq0.ensures.pass c.take_list-list-then-head-eq0.ensures.list.0 c.take_list-list-then-head-eq0.ensures.list.1)

pub loop-preserved : goal.loop-preserved
loop-preserved g c =
    let moved = swap_moved (side_of c.loop.pass.seat.me.0.place) c.loop.pass.seat.me c.swap_head-head.result c.swap_head-head.new.pass.seat.me c.swap_head-head.ensures.step in
    (tt, tt, wake_walked c.args.self.now c.args.guard.value c.args.pass.now c.loop.pass c.loop.list c.loop.invariant.2 c.walk.new.pass c.walk.new.list c.swap_head-head.result c.swap_head-head.new.pass.seat.me.0 moved.0 _ moved.1 (swapped_side (side_of c.loop.pass.seat.me.0.place) c.loop.pass.seat.me c.swap_head-head.result c.swap_head-head.new.pass.seat.me c.swap_head-head.ensures.step ∙ wake_side c.args.self.now c.args.guard.value c.args.pass.now c.loop.pass c.loop.list c.loop.invariant.2) c.walk.ensures.walked c.walk.ensures.pass c.walk.ensures.list)

pub returns-in-loop-clause-unlock : goal.returns-in-loop-clause-unlock
returns-in-loop-clause-unlock g c =
    (wake_grants c.args.self.now c.args.guard.value c.args.pass.now c.loop.pass c.loop.list c.loop.invariant.2 c.grant.new.pass c.in-Some-take_first.q c.grant.result c.co_of.result c.grant.ensures.granted c.co_of.ensures).0

pub returns-in-loop-clause-steps : goal.returns-in-loop-clause-steps
returns-in-loop-clause-steps g c =
    (wake_grants c.args.self.now c.args.guard.value c.args.pass.now c.loop.pass c.loop.list c.loop.invariant.2 c.grant.new.pass c.in-Some-take_first.q c.grant.result c.co_of.result c.grant.ensures.granted c.co_of.ensures).1
