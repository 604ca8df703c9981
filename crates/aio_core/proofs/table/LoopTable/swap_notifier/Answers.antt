use Rattle.std.proofs.Common.{◌≡◌, sym, subst, arith}
use Rattle.aio_model.specs.Loop.InFlight.{ToSet, flight_of}
use Rattle.aio_core.proofs.Notifying.{notifier_set_allowed}
use Rattle.aio_core.proofs.Opened.{same_table, held_numbers, word_within}
use Rattle.aio_core.proofs.table.LoopTable.swap_notifier.Goals as goal

pub swap-requires : goal.swap-requires
swap-requires g c =
    let s = c.seat.inside.inner in
    let t = c.self.inside.table.shared in
    let phase : s.me.0.phase ≡ ToSet (flight_of s.me.0.phase) = subst (λ z. z.known.phase ≡ ToSet (flight_of z.known.phase)) (sym c.seat.view_is) c.requires.phase in (
      same_table s.table_id t.table_id s.me.0 t.key c.args.seat.now c.args.self.now c.seat.view_is c.self.view_is c.requires.seat,
      word_within t.table_id.words 3 t.key c.self.invariant.1 (omega arith),
      notifier_set_allowed _ t.key t.table_id.slots s.id (flight_of s.me.0.phase) s.me (held_numbers s.me _ _ c.seat.invariant) phase,
    )
