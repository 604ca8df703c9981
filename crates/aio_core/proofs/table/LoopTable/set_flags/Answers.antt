use Rattle.std.proofs.Common.{◌<◌, sym, ap, ◌∙◌, subst, arith}
use Rattle.aio_core.specs.Calls.{SeatState}
use Rattle.aio_core.specs.Known.{Known}
use Rattle.aio_core.specs.Standing.{asks_of_kind}
use Rattle.aio_core.proofs.Enqueuing.{enqueue_allowed}
use Rattle.aio_core.proofs.Opened.{same_table, seat_still, held_still, held_numbers, flags_within}
use Rattle.aio_core.proofs.Told.{asked_is_of_handle}
use Rattle.aio_core.proofs.table.LoopTable.set_flags.Goals as goal

pub fetch_or-requires : goal.fetch_or-requires
fetch_or-requires g c =
    let s = c.seat.inside.inner in
    let t = c.self.inside.table.shared in
    let bh = c.args.bh in
    let handle : bh < t.key.handles = subst (λ z. bh < z.sizes.handles) (sym c.self.view_is) c.requires.handle in (
      same_table s.table_id t.table_id s.me.0 t.key c.args.seat.now c.args.self.now c.seat.view_is c.self.view_is c.requires.seat.of,
      flags_within t.table_id.words c.flags_word.result bh t.key c.self.invariant.1 c.flags_word.ensures (omega arith),
      rw (c.flags_word.ensures, c.requires.mask) (enqueue_allowed _ t.key t.table_id.slots s.id bh s.me (asks_of_kind c.args.kind) (held_numbers s.me _ _ c.seat.invariant) (ap (λ (z : SeatState). z.known.phase) c.seat.view_is ∙ c.requires.seat.rest) (asked_is_of_handle c.args.kind) handle),
    )

pub invariant_of-seat : goal.invariant_of-seat
invariant_of-seat g c =
    let told = c.fetch_or.ensures.2 in
    let step = (told.1 c.args.bh c.flags_word.ensures).enqueues.rest in
    held_still c.seat.inside.inner.me c.fetch_or.new.seat.me _ _ c.seat.invariant told.0 (ap (λ (k : Known). k.first) step) (ap (λ (k : Known). k.count) step)

pub returns-clause-seat : goal.returns-clause-seat
returns-clause-seat g c =
    let told = c.fetch_or.ensures.2 in
    let step = (told.1 c.args.bh c.flags_word.ensures).enqueues.rest in
    seat_still c.seat.inside.inner.table_id c.fetch_or.new.seat.table_id c.seat.inside.inner.me.0 c.fetch_or.new.seat.me.0 c.args.seat.now c.args.self.now c.seat.view_is c.requires.seat.of c.fetch_or.ensures.0 (ap (λ (k : Known). k.sizes) step)
