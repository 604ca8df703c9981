use Rattle.std.proofs.Common.{rules}
use Rattle.co_mutex.proofs.LockSteps.{head_load_step}
use Rattle.co_mutex.proofs.lock.CoMutex.load_head.Goals as goal

pub load-requires : goal.load-requires
load-requires g c =
    (c.requires.pass.table, search rules, head_load_step g.P.LockRule.note c.args.self.now.table.shared.key.passes c.args.self.now.table.shared.key.value.value c.args.self.now.table.shared.table_id.slots c.args.pass.now.seat.id c.args.pass.now.seat.me c.requires.place.1.0 c.requires.pass.live c.requires.place.1.1)
