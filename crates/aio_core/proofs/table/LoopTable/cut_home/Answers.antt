use Rattle.std.proofs.Common.{◌≡◌, sym, subst, arith}
use Rattle.aio_core.proofs.Splitting.{split_allowed}
use Rattle.aio_core.proofs.Opened.{same_table, head_within}
use Rattle.aio_core.proofs.table.LoopTable.cut_home.Goals as goal

pub split_seat-inner-requires : goal.split_seat-inner-requires
split_seat-inner-requires g c =
    let s = c.seat.inside.inner in
    let t = c.self.inside.table.shared in
    let count : s.me.0.count ≡ 65 = subst (λ z. z.known.count ≡ 65) (sym c.seat.view_is) c.requires.all.count in (
      same_table s.table_id t.table_id s.me.0 t.key c.args.seat.now c.args.self.now c.seat.view_is c.self.view_is c.requires.seat,
      head_within t.table_id.words t.key c.self.invariant.1,
      split_allowed _ t.key s.id 64 s.me.0 (omega arith) (omega arith),
    )
