use Rattle.std.proofs.Common.{arith}
use Rattle.aio_core.proofs.Settling.{notifier_load_allowed}
use Rattle.aio_core.proofs.Opened.{same_table, held_numbers, word_within}
use Rattle.aio_core.proofs.table.LoopTable.read_notifier.Goals as goal

pub load-requires : goal.load-requires
load-requires g c =
    let s = c.seat.inside.inner in
    let t = c.self.inside.table.shared in (
      same_table s.table_id t.table_id s.me.0 t.key c.args.seat.now c.args.self.now c.seat.view_is c.self.view_is c.requires.seat,
      word_within t.table_id.words 3 t.key c.self.invariant.1 (omega arith),
      notifier_load_allowed _ t.key t.table_id.slots s.id s.me (held_numbers s.me _ _ c.seat.invariant),
    )
