use Rattle.std.proofs.Common.{◌≡◌, None, true, sym, subst}
use Rattle.aio_core.specs.Known.{is_running}
use Rattle.aio_core.proofs.Scanning.{scan_head_allowed}
use Rattle.aio_core.proofs.Opened.{same_table, held_numbers, head_within, home_opened}
use Rattle.aio_core.proofs.table.LoopTable.scan_head.Goals as goal

pub load-requires : goal.load-requires
load-requires g c =
    let s = c.seat.inside.inner in
    let t = c.self.inside.table.shared in
    let running : is_running s.me.0.sleep ≡ true = subst (λ z. is_running z.known.sleep ≡ true) (sym c.seat.view_is) c.requires.running in
    let free : s.me.0.stage.hand ≡ None = subst (λ z. z.known.stage.hand ≡ None) (sym c.seat.view_is) c.requires.free in (
      same_table s.table_id t.table_id s.me.0 t.key c.args.seat.now c.args.self.now c.seat.view_is c.self.view_is c.requires.seat,
      head_within t.table_id.words t.key c.self.invariant.1,
      (scan_head_allowed _ t.key t.table_id.slots s.id s.me (held_numbers s.me _ _ c.seat.invariant) (home_opened s.table_id s.me.0 c.args.seat.now c.seat.view_is c.requires.number) running free),
    )
