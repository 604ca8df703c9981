use Rattle.co_mutex.specs.LockWords.{grant_at}
use Rattle.co_mutex.proofs.Holding.{find_hand, find_holds, told_true}
use Rattle.co_mutex.proofs.lock.CoMutex.resumed.Goals as goal

pub take_value-value-requires-clause-value : goal.take_value-value-requires-clause-value
take_value-value-requires-clause-value g c =
    find_hand g.P.LockRule.note c.args.self.now.table.shared.key.value.value (grant_at c.args.pass.now.seat.me.0.number) c.args.pass.now.seat.me c.swap_grant.new.pass.seat.me (told_true _ _ c.swap_grant.result 1 c.swap_grant.ensures.step c.if-swap_grant-eq1.true)

pub returns-then-swap_grant-eq1-clause-lock : goal.returns-then-swap_grant-eq1-clause-lock
returns-then-swap_grant-eq1-clause-lock g c =
    find_holds g.P.LockRule.note c.args.self.now.table.shared.key.value.value (grant_at c.args.pass.now.seat.me.0.number) c.args.pass.now.seat.me c.swap_grant.new.pass.seat.me c.take_value-value.new.pass.seat.me c.take_value-value.result (told_true _ _ c.swap_grant.result 1 c.swap_grant.ensures.step c.if-swap_grant-eq1.true) c.take_value-value.ensures.value.0 c.take_value-value.ensures.value.1
