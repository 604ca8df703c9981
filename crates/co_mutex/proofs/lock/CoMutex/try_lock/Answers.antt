use Rattle.co_mutex.specs.Known.{LockedCompare}
use Rattle.std.proofs.Common.{[]}
use Rattle.co_mutex.proofs.Holding.{got_hand, got_holds, rest_start, told_true}
use Rattle.co_mutex.proofs.lock.CoMutex.try_lock.Goals as goal

pub take_value-value-requires-clause-value : goal.take_value-value-requires-clause-value
take_value-value-requires-clause-value g c =
    got_hand g.P.LockRule.note c.args.self.now.table.shared.key.value.value LockedCompare c.args.pass.now.seat.me c.compare_locked-found.new.pass.seat.me (told_true _ _ c.compare_locked-found.result 0 c.compare_locked-found.ensures.step c.if-found-ne0.false)

pub returns-clause-lock : goal.returns-clause-lock
returns-clause-lock g c =
    got_holds g.P.LockRule.note c.args.self.now.table.shared.key.value.value LockedCompare c.args.pass.now.seat.me.0 c.args.pass.now.seat.me c.compare_locked-found.new.pass.seat.me c.take_value-value.new.pass.seat.me [] (rest_start c.args.pass.now.seat.me.0 c.requires.rest) c.take_value-value.result (told_true _ _ c.compare_locked-found.result 0 c.compare_locked-found.ensures.step c.if-found-ne0.false) c.take_value-value.ensures.value.0 c.take_value-value.ensures.value.1
