use Rattle.co_mutex.proofs.Holding.{told_false}
use Rattle.co_mutex.proofs.UnlockLoop.{has_list}
use Rattle.co_mutex.proofs.Stepping.{left}
use Rattle.co_mutex.proofs.orders.locker.Holds.step.Goals as goal

pub take_list-list-requires-clause-list : goal.take_list-list-requires-clause-list
take_list-list-requires-clause-list c =
    has_list _ _ _ _ c.give_value.ensures.step c.if-give_value-eq1.false

pub pop-requires-clause-side : goal.pop-requires-clause-side
pop-requires-clause-side c =
    (left _ _ _ _ _ _ (told_false _ _ _ _ c.give_value.ensures.step c.if-give_value-eq1.false) c.take_list-list.ensures.list.0 c.take_list-list.ensures.list.1).side

pub pop-requires-clause-place : goal.pop-requires-clause-place
pop-requires-clause-place c =
    (left _ _ _ _ _ _ (told_false _ _ _ _ c.give_value.ensures.step c.if-give_value-eq1.false) c.take_list-list.ensures.list.0 c.take_list-list.ensures.list.1).place

pub pop-requires-clause-hand : goal.pop-requires-clause-hand
pop-requires-clause-hand c =
    (left _ _ _ _ _ _ (told_false _ _ _ _ c.give_value.ensures.step c.if-give_value-eq1.false) c.take_list-list.ensures.list.0 c.take_list-list.ensures.list.1).hand

pub pop-requires-clause-list : goal.pop-requires-clause-list
pop-requires-clause-list c =
    let l = (left _ _ _ _ _ _ (told_false _ _ _ _ c.give_value.ensures.step c.if-give_value-eq1.false) c.take_list-list.ensures.list.0 c.take_list-list.ensures.list.1) in
    (l.room, l.low)
