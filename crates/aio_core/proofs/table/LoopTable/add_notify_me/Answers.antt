use Rattle.std.proofs.Common.{◌≡◌, length, refl, sym, subst, arith}
use Rattle.aio_core.specs.Known.{Scanning, empty_stage}
use Rattle.aio_core.specs.SleepSteps.{scan_in}
use Rattle.aio_core.proofs.Arming.{arm_allowed}
use Rattle.aio_core.proofs.Opened.{same_table, held_numbers, word_within, home_opened}
use Rattle.aio_core.proofs.table.LoopTable.add_notify_me.Goals as goal

pub fetch_add-requires : goal.fetch_add-requires
fetch_add-requires g c =
    let s = c.seat.inside.inner in
    let t = c.self.inside.table.shared in
    let scanning : s.me.0.sleep ≡ Scanning (length s.me.0.did) (scan_in s.me.0.sleep) = subst (λ z. z.known.sleep ≡ Scanning (length z.known.did) (scan_in z.known.sleep)) (sym c.seat.view_is) c.requires.scanned in
    let over : (scan_in s.me.0.sleep).stage ≡ empty_stage = subst (λ z. (scan_in z.known.sleep).stage ≡ empty_stage) (sym c.seat.view_is) c.requires.over in (
      same_table s.table_id t.table_id s.me.0 t.key c.args.seat.now c.args.self.now c.seat.view_is c.self.view_is c.requires.seat,
      word_within t.table_id.words 2 t.key c.self.invariant.1 (omega arith),
      (arm_allowed _ t.key t.table_id.slots s.id (length s.me.0.did) (scan_in s.me.0.sleep) s.me (held_numbers s.me _ _ c.seat.invariant) (home_opened s.table_id s.me.0 c.args.seat.now c.seat.view_is c.requires.number) scanning refl over),
    )
