use Rattle.aio_core.proofs.Taking.{take_allowed}
use Rattle.aio_core.proofs.Opened.{same_table, held_numbers, head_within, home_opened}
use Rattle.aio_core.proofs.table.LoopTable.swap_head.Goals as goal

pub swap-requires : goal.swap-requires
swap-requires g c =
    let s = c.seat.inside.inner in
    let t = c.self.inside.table.shared in (
      same_table s.table_id t.table_id s.me.0 t.key c.args.seat.now c.args.self.now c.seat.view_is c.self.view_is c.requires.seat,
      head_within t.table_id.words t.key c.self.invariant.1,
      take_allowed _ t.key t.table_id.slots s.id s.me (held_numbers s.me _ _ c.seat.invariant) (home_opened s.table_id s.me.0 c.args.seat.now c.seat.view_is c.requires.number),
    )
