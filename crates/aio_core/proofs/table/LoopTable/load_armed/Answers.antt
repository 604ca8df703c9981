use Rattle.std.proofs.Common.{ap}
use Rattle.aio_core.specs.Known.{Known}
use Rattle.aio_core.proofs.Opened.{held_still, seat_still}
use Rattle.std.proofs.Common.{◌≡◌, sym, subst, arith}
use Rattle.aio_model.specs.Loop.InFlight.{ToLoad, flight_of}
use Rattle.aio_core.proofs.Notifying.{notify_me_load_allowed}
use Rattle.aio_core.proofs.Opened.{same_table, held_numbers, word_within}
use Rattle.aio_core.proofs.table.LoopTable.load_armed.Goals as goal

pub load-requires : goal.load-requires
load-requires g c =
    let s = c.seat.inside.inner in
    let t = c.self.inside.table.shared in
    let phase : s.me.0.phase ≡ ToLoad (flight_of s.me.0.phase) = subst (λ z. z.known.phase ≡ ToLoad (flight_of z.known.phase)) (sym c.seat.view_is) c.requires.phase in (
      same_table s.table_id t.table_id s.me.0 t.key c.args.seat.now c.args.self.now c.seat.view_is c.self.view_is c.requires.seat,
      word_within t.table_id.words 2 t.key c.self.invariant.1 (omega arith),
      notify_me_load_allowed _ t.key t.table_id.slots s.id (flight_of s.me.0.phase) s.me (held_numbers s.me _ _ c.seat.invariant) phase,
    )

pub invariant_of-seat : goal.invariant_of-seat
invariant_of-seat g c =
    let s = c.seat.inside.inner in
    let phase : s.me.0.phase ≡ ToLoad (flight_of s.me.0.phase) = subst (λ z. z.known.phase ≡ ToLoad (flight_of z.known.phase)) (sym c.seat.view_is) c.requires.phase in
    let told = c.load.ensures.2 in
    let step = (told.1 (flight_of s.me.0.phase) phase).rest in
    held_still s.me c.load.new.seat.me _ _ c.seat.invariant told.0 (ap (λ (k : Known). k.first) step) (ap (λ (k : Known). k.count) step)

pub returns-clause-seat : goal.returns-clause-seat
returns-clause-seat g c =
    let s = c.seat.inside.inner in
    let phase : s.me.0.phase ≡ ToLoad (flight_of s.me.0.phase) = subst (λ z. z.known.phase ≡ ToLoad (flight_of z.known.phase)) (sym c.seat.view_is) c.requires.phase in
    let told = c.load.ensures.2 in
    let step = (told.1 (flight_of s.me.0.phase) phase).rest in
    seat_still s.table_id c.load.new.seat.table_id s.me.0 c.load.new.seat.me.0 c.args.seat.now c.args.self.now c.seat.view_is c.requires.seat c.load.ensures.0 (ap (λ (k : Known). k.sizes) step)
