use Rattle.std.proofs.Common.{rules}
use Rattle.co_mutex.proofs.LockSteps.{back_step}
use Rattle.co_mutex.proofs.lock.CoMutex.take_back.Goals as goal

pub compare_exchange-requires : goal.compare_exchange-requires
compare_exchange-requires g c =
    (c.requires.pass.table, search rules, back_step g.P.LockRule.note c.args.self.now.table.shared.key.passes c.args.self.now.table.shared.key.value.value c.args.self.now.table.shared.table_id.slots c.args.pass.now.seat.id c.args.pass.now.seat.me c.args.number c.requires.pass.live c.requires.place.1 c.requires.place.0)
