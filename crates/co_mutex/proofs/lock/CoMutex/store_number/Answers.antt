use Rattle.std.proofs.Common.{rules}
use Rattle.co_mutex.proofs.WakeSteps.{publish_step}
use Rattle.co_mutex.proofs.lock.CoMutex.store_number.Goals as goal

pub store-requires : goal.store-requires
store-requires g c =
    (c.requires.pass.table, search rules, publish_step g.P.LockRule.note c.args.self.now.table.shared.key.passes c.args.self.now.table.shared.key.value.value c.args.self.now.table.shared.table_id.slots c.args.pass.now.seat.id c.args.pass.now.seat.me c.args.number c.requires.list.0 c.requires.pass.live c.requires.list.1 c.requires.duty c.requires.some)
