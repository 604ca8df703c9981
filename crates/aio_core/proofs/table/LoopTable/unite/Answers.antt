use Rattle.std.proofs.Common.{◌≡◌, ◌+◌, sym, ap, ◌∙◌}
use Rattle.aio_core.specs.Calls.{SeatState}
use Rattle.aio_core.proofs.Joining.{join_allowed}
use Rattle.aio_core.proofs.Opened.{same_table, held_numbers, head_within}
use Rattle.aio_core.proofs.table.LoopTable.unite.Goals as goal

pub join_seat-requires : goal.join_seat-requires
join_seat-requires g c =
    let s = c.seat.inside.inner in
    let o = c.other.inside.inner in
    let t = c.self.inside.table.shared in
    let next : o.me.0.first ≡ s.me.0.first + s.me.0.count = ap (λ (x : SeatState). x.known.first) c.other.view_is ∙ c.requires.next ∙ sym (ap (λ (x : SeatState). x.known.first + x.known.count) c.seat.view_is) in (
      same_table s.table_id t.table_id s.me.0 t.key c.args.seat.now c.args.self.now c.seat.view_is c.self.view_is c.requires.seat,
      same_table o.table_id t.table_id o.me.0 t.key c.args.other c.args.self.now c.other.view_is c.self.view_is c.requires.other.of,
      c.other.invariant.0,
      head_within t.table_id.words t.key c.self.invariant.1,
      join_allowed _ t.key s.id o.id s.me.0 o.me.0 next (held_numbers s.me _ _ c.seat.invariant) (ap (λ (x : SeatState). x.known.phase) c.other.view_is ∙ c.requires.other.rest),
    )
