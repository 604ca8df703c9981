use Rattle.std.proofs.Common.{◌≡◌, sym, subst}
use Rattle.aio_model.specs.Loop.InFlight.{Announced}
use Rattle.aio_core.proofs.Aiming.{head_load_allowed}
use Rattle.aio_core.proofs.Opened.{same_table, held_numbers, head_within}
use Rattle.aio_core.proofs.table.LoopTable.load_head.Goals as goal

pub load-requires : goal.load-requires
load-requires g c =
    let s = c.seat.inside.inner in
    let t = c.self.inside.table.shared in
    let phase : s.me.0.phase ≡ Announced c.args.bh = subst (λ z. z.known.phase ≡ Announced c.args.bh) (sym c.seat.view_is) c.requires.phase in (
      same_table s.table_id t.table_id s.me.0 t.key c.args.seat.now c.args.self.now c.seat.view_is c.self.view_is c.requires.seat,
      head_within t.table_id.words t.key c.self.invariant.1,
      head_load_allowed _ t.key t.table_id.slots s.id c.args.bh s.me (held_numbers s.me _ _ c.seat.invariant) phase,
    )
