use Rattle.std.proofs.Common.{rules, ◌∙◌}
use Rattle.co_mutex.proofs.Codes.{push_ready}
use Rattle.co_mutex.proofs.lock.CoMutex.compare_head.Goals as goal

pub compare_exchange-requires : goal.compare_exchange-requires
compare_exchange-requires g c =
    (c.requires.pass.table, search rules, push_ready g.P.LockRule.note c.args.self.now.table.shared.key.passes c.args.self.now.table.shared.key.value.value c.args.self.now.table.shared.table_id.slots c.args.pass.now.seat.id c.args.pass.now.seat.me c.requires.pass.live c.from-first.result c.requires.place.1.0 c.args.head (c.from-first.ensures ∙ c.requires.pass.number) c.requires.place.1.1)
