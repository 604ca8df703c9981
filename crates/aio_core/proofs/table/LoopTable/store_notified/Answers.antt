use Rattle.std.proofs.Common.{◌≡◌, true, sym, subst, arith}
use Rattle.aio_core.specs.Standing.{may_notify}
use Rattle.aio_core.proofs.Notifying.{notified_store_allowed}
use Rattle.aio_core.proofs.Opened.{same_table, held_numbers, word_within}
use Rattle.aio_core.proofs.table.LoopTable.store_notified.Goals as goal

pub store-requires : goal.store-requires
store-requires g c =
    let s = c.seat.inside.inner in
    let t = c.self.inside.table.shared in
    let ready : may_notify s.me.0.phase ≡ true = subst (λ z. may_notify z.known.phase ≡ true) (sym c.seat.view_is) c.requires.phase in (
      same_table s.table_id t.table_id s.me.0 t.key c.args.seat.now c.args.self.now c.seat.view_is c.self.view_is c.requires.seat,
      word_within t.table_id.words 1 t.key c.self.invariant.1 (omega arith),
      notified_store_allowed _ t.key t.table_id.slots s.id s.me (held_numbers s.me _ _ c.seat.invariant) ready,
    )
