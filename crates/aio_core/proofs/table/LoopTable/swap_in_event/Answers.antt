use Rattle.std.proofs.Common.{◌≡◌, ◌<◌, sym, ap, subst, arith}
use Rattle.aio_model.specs.Loop.InFlight.{AtRest}
use Rattle.aio_core.specs.Known.{Known}
use Rattle.aio_core.specs.SleepSteps.{SetsEvent}
use Rattle.aio_core.proofs.Eventing.{event_set_allowed}
use Rattle.aio_core.proofs.Opened.{same_table, seat_still, held_still, held_numbers, event_within}
use Rattle.aio_core.proofs.table.LoopTable.swap_in_event.Goals as goal

pub swap-requires : goal.swap-requires
swap-requires g c =
    let s = c.seat.inside.inner in
    let t = c.self.inside.table.shared in
    let event = c.args.event in
    let there : event < t.key.events = subst (λ z. event < z.sizes.events) (sym c.self.view_is) c.requires.event in
    let few = c.self.invariant.4 in
    let below : event < 64 = omega arith in
    let phase : s.me.0.phase ≡ AtRest = subst (λ z. z.known.phase ≡ AtRest) (sym c.seat.view_is) c.requires.seat.rest in (
      same_table s.table_id t.table_id s.me.0 t.key c.args.seat.now c.args.self.now c.seat.view_is c.self.view_is c.requires.seat.of,
      event_within t.table_id.words c.event_word.result event t.key c.self.invariant.1 c.event_word.ensures below,
      rw c.event_word.ensures (event_set_allowed _ t.key t.table_id.slots s.id event s.me (held_numbers s.me _ _ c.seat.invariant) phase below),
    )

pub invariant_of-seat : goal.invariant_of-seat
invariant_of-seat g c =
    let told = c.swap.ensures.2 in
    let step = (told.1 c.args.event c.event_word.ensures).rest in
    held_still c.seat.inside.inner.me c.swap.new.seat.me _ _ c.seat.invariant told.0 (ap (λ (k : Known). k.first) step) (ap (λ (k : Known). k.count) step)

pub returns-clause-seat : goal.returns-clause-seat
returns-clause-seat g c =
    let told = c.swap.ensures.2 in
    let step = (told.1 c.args.event c.event_word.ensures).rest in
    seat_still c.seat.inside.inner.table_id c.swap.new.seat.table_id c.seat.inside.inner.me.0 c.swap.new.seat.me.0 c.args.seat.now c.args.self.now c.seat.view_is c.requires.seat.of c.swap.ensures.0 (ap (λ (k : Known). k.sizes) step)

pub returns-clause-step : goal.returns-clause-step
returns-clause-step g c =
    let told = c.swap.ensures.2 in
    subst (λ z. SetsEvent c.args.event c.swap.result z.known c.swap.new.seat.me.0) c.seat.view_is (told.1 c.args.event c.event_word.ensures)
