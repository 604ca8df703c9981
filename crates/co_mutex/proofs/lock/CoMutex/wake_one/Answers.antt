use Rattle.std.proofs.Common.{refl, ap, subst, ◌∙◌}
use Rattle.co_mutex.specs.Places.{side_of}
use Rattle.co_mutex.specs.Waking.{Granted}
use Rattle.co_mutex.proofs.Codes.{M}
use Rattle.co_mutex.proofs.WakeOne.{swap_moved, walked_side, woke}
use Rattle.co_mutex.proofs.lock.CoMutex.wake_one.Goals as goal

pub returns-clause-woke : goal.returns-clause-woke
returns-clause-woke g c =
    let place = ap (λ (z : M g.row.P-Value.Denot). z.0.place) c.take_list-list.ensures.list.1 ∙ c.requires.duty in
    let swap = c.swap_head-head.ensures.step in
    let moved = swap_moved (side_of c.take_list-list.new.pass.seat.me.0.place) c.take_list-list.new.pass.seat.me c.swap_head-head.result c.swap_head-head.new.pass.seat.me swap in
    let side = walked_side (side_of c.take_list-list.new.pass.seat.me.0.place) c.take_list-list.new.pass.seat.me c.swap_head-head.result c.swap_head-head.new.pass.seat.me swap _ _ c.walk.new.pass.seat.me refl c.walk.ensures.walked ∙ ap side_of place in
    woke c.args.pass.now.seat.me.0 c.take_list-list.new.pass.seat.me c.swap_head-head.new.pass.seat.me c.walk.new.pass.seat.me c.grant-who.new.pass.seat.me _ moved.0 _ c.swap_head-head.result c.in-Some.q c.grant-who.result (ap (λ (z : M g.row.P-Value.Denot). z.0) c.take_list-list.ensures.list.1) moved.1 c.walk.ensures.walked (subst (λ s. Granted s c.in-Some.q c.grant-who.result c.walk.new.pass.seat.me.0 c.grant-who.new.pass.seat.me) side c.grant-who.ensures.granted)
