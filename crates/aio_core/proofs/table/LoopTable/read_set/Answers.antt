use Rattle.std.proofs.Common.{◌<◌, sym, ap, subst, arith}
use Rattle.aio_core.specs.Known.{Known, EventLoad}
use Rattle.aio_core.specs.Standing.{Looks}
use Rattle.aio_core.specs.Words.{event_at}
use Rattle.aio_core.proofs.Settling.{event_told_allowed}
use Rattle.aio_core.proofs.Opened.{same_table, seat_still, held_still, held_numbers, event_within}
use Rattle.aio_core.proofs.table.LoopTable.read_set.Goals as goal

pub load-requires : goal.load-requires
load-requires g c =
    let s = c.seat.inside.inner in
    let t = c.self.inside.table.shared in
    let event = c.args.event in
    let there : event < t.key.events = subst (λ z. event < z.sizes.events) (sym c.self.view_is) c.requires.event in
    let few = c.self.invariant.4 in
    let below : event < 64 = omega arith in (
      same_table s.table_id t.table_id s.me.0 t.key c.args.seat.now c.args.self.now c.seat.view_is c.self.view_is c.requires.seat,
      event_within t.table_id.words c.event_word.result event t.key c.self.invariant.1 c.event_word.ensures below,
      rw c.event_word.ensures (event_told_allowed _ t.key t.table_id.slots s.id event s.me (held_numbers s.me _ _ c.seat.invariant) below),
    )

pub invariant_of-seat : goal.invariant_of-seat
invariant_of-seat g c =
    let told = c.load.ensures.2 in
    let step = (told.1 c.args.event c.event_word.ensures).0.rest in
    held_still c.seat.inside.inner.me c.load.new.seat.me _ _ c.seat.invariant told.0 (ap (λ (k : Known). k.first) step) (ap (λ (k : Known). k.count) step)

pub returns-clause-seat : goal.returns-clause-seat
returns-clause-seat g c =
    let told = c.load.ensures.2 in
    let step = (told.1 c.args.event c.event_word.ensures).0.rest in
    seat_still c.seat.inside.inner.table_id c.load.new.seat.table_id c.seat.inside.inner.me.0 c.load.new.seat.me.0 c.args.seat.now c.args.self.now c.seat.view_is c.requires.seat c.load.ensures.0 (ap (λ (k : Known). k.sizes) step)

pub returns-clause-step : goal.returns-clause-step
returns-clause-step g c =
    let told = c.load.ensures.2 in
    subst (λ z. Looks EventLoad (event_at c.args.event) c.load.result z.known c.load.new.seat.me.0) c.seat.view_is (told.1 c.args.event c.event_word.ensures).0
