use Rattle.std.proofs.Common.{inl, [], ◌∷◌}
use Rattle.co_mutex.specs.LockWords.{locked_at}
use Rattle.co_mutex.specs.Known.{LockedCompare, LockedFetchAdd}
use Rattle.co_mutex.specs.Plays.{done}
use Rattle.co_mutex.specs.Calls.{co_id_word}
use Rattle.co_mutex.proofs.LockCalls.{did_begun, did_lock, locks_later}
use Rattle.co_mutex.proofs.lock.CoMutex.lock.Goals as goal

pub returns-in-Held-clause-lock : goal.returns-in-Held-clause-lock
returns-in-Held-clause-lock g c = inl c.in-Held.ensures.lock.0

pub returns-in-Held-clause-steps : goal.returns-in-Held-clause-steps
returns-in-Held-clause-steps g c = did_begun _ _ c.in-Held.ensures.lock.1

pub returns-in-Later-clause-lock : goal.returns-in-Later-clause-lock
returns-in-Later-clause-lock g c =
    locks_later g.P.LockRule.note c.args.self.now.table.shared.key.value.value (co_id_word c.args.co) c.args.pass.now.seat.me.0 c.begin_lock.new.pass.seat.me.0 c.finish_lock.new.pass.seat.me.0 (done LockedFetchAdd locked_at c.in-Later.ensures.lock.1.1 ∷ done LockedCompare locked_at c.in-Later.ensures.lock.1.0 ∷ []) c.finish_lock.result c.in-Later.ensures.lock.1.4 c.finish_lock.ensures.lock

pub returns-in-Later-clause-steps : goal.returns-in-Later-clause-steps
returns-in-Later-clause-steps g c =
    let told = c.in-Later.ensures.lock.1 in
    did_lock c.args.pass.now.seat.me.0 c.begin_lock.new.pass.seat.me.0 c.finish_lock.new.pass.seat.me.0 told.0 told.1 told.4 c.finish_lock.ensures.steps
