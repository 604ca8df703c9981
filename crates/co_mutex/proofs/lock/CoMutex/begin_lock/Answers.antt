use Rattle.std.proofs.Common.{[], ◌∷◌, ap, inl, inr}
use Rattle.co_mutex.specs.LockWords.{locked_at}
use Rattle.co_mutex.specs.Known.{LockedCompare, LockedFetchAdd}
use Rattle.co_mutex.specs.Plays.{done}
use Rattle.co_mutex.proofs.Codes.{M}
use Rattle.co_mutex.proofs.Holding.{got_hand, got_holds, rest_start, told_true, told_false}
use Rattle.co_mutex.proofs.lock.CoMutex.begin_lock.Goals as goal

pub take_value-value-requires-clause-value : goal.take_value-value-requires-clause-value
take_value-value-requires-clause-value g c =
    got_hand g.P.LockRule.note c.args.self.now.table.shared.key.value.value LockedCompare c.args.pass.now.seat.me c.compare_locked.new.pass.seat.me (told_true _ _ c.compare_locked.result 0 c.compare_locked.ensures.step c.if-compare_locked-eq0.true)

pub returns-then-compare_locked-eq0-clause-lock : goal.returns-then-compare_locked-eq0-clause-lock
returns-then-compare_locked-eq0-clause-lock g c =
    let h = got_holds g.P.LockRule.note c.args.self.now.table.shared.key.value.value LockedCompare c.args.pass.now.seat.me.0 c.args.pass.now.seat.me c.compare_locked.new.pass.seat.me c.take_value-value.new.pass.seat.me [] (rest_start c.args.pass.now.seat.me.0 c.requires.rest) c.take_value-value.result (told_true _ _ c.compare_locked.result 0 c.compare_locked.ensures.step c.if-compare_locked-eq0.true) c.take_value-value.ensures.value.0 c.take_value-value.ensures.value.1 in
    (h.0, inl h.1)

pub take_value-value-requires-then-add_locked-eq0-clause-value : goal.take_value-value-requires-then-add_locked-eq0-clause-value
take_value-value-requires-then-add_locked-eq0-clause-value g c =
    got_hand g.P.LockRule.note c.args.self.now.table.shared.key.value.value LockedFetchAdd c.compare_locked.new.pass.seat.me c.add_locked.new.pass.seat.me (told_true _ _ c.add_locked.result 0 c.add_locked.ensures.step c.if-add_locked-eq0.true)

pub returns-then-add_locked-eq0-clause-lock : goal.returns-then-add_locked-eq0-clause-lock
returns-then-add_locked-eq0-clause-lock g c =
    let h = got_holds g.P.LockRule.note c.args.self.now.table.shared.key.value.value LockedFetchAdd c.args.pass.now.seat.me.0 c.compare_locked.new.pass.seat.me c.add_locked.new.pass.seat.me c.take_value-value-then-add_locked-eq0.new.pass.seat.me (done LockedCompare locked_at c.compare_locked.result ∷ []) (ap (λ (z : M g.row.P-Value.Denot). z.0) (told_false _ _ c.compare_locked.result 0 c.compare_locked.ensures.step c.if-compare_locked-eq0.false)) c.take_value-value-then-add_locked-eq0.result (told_true _ _ c.add_locked.result 0 c.add_locked.ensures.step c.if-add_locked-eq0.true) c.take_value-value-then-add_locked-eq0.ensures.value.0 c.take_value-value-then-add_locked-eq0.ensures.value.1 in
    (h.0, inr (c.compare_locked.result, c.if-compare_locked-eq0.false, h.1))
