use Rattle.std.proofs.Common.{◌≡◌, true, sym, subst, arith}
use Rattle.aio_core.specs.Known.{is_running}
use Rattle.aio_core.proofs.Arming.{accept_allowed}
use Rattle.aio_core.proofs.Opened.{same_table, held_numbers, word_within, home_opened}
use Rattle.aio_core.proofs.table.LoopTable.store_accept.Goals as goal

pub store-requires : goal.store-requires
store-requires g c =
    let s = c.seat.inside.inner in
    let t = c.self.inside.table.shared in
    let running : is_running s.me.0.sleep ≡ true = subst (λ z. is_running z.known.sleep ≡ true) (sym c.seat.view_is) c.requires.running in (
      same_table s.table_id t.table_id s.me.0 t.key c.args.seat.now c.args.self.now c.seat.view_is c.self.view_is c.requires.seat,
      word_within t.table_id.words 1 t.key c.self.invariant.1 (omega arith),
      accept_allowed _ t.key t.table_id.slots s.id s.me (held_numbers s.me _ _ c.seat.invariant) (home_opened s.table_id s.me.0 c.args.seat.now c.seat.view_is c.requires.number) running,
    )
