use Rattle.std.proofs.Common.{◌<◌, ◌-◌, sym, ap, ◌∙◌, subst, arith}
use Rattle.table_seats.specs.Dividing.{half_as_many}
use Rattle.table_seats.proofs.Splitting.{half_below, back_first, back_count, front_count}
use Rattle.aio_core.proofs.Splitting.{split_allowed}
use Rattle.aio_core.proofs.Opened.{same_table, head_within}
use Rattle.aio_core.proofs.table.LoopTable.cut.Goals as goal

pub split_seat-inner-requires : goal.split_seat-inner-requires
split_seat-inner-requires g c =
    let s = c.seat.inside.inner in
    let t = c.self.inside.table.shared in
    let many : 1 < s.me.0.count = subst (λ z. 1 < z.known.count) (sym c.seat.view_is) c.requires.many in
    let half = half_below s.me.0.count (omega arith) in (
      same_table s.table_id t.table_id s.me.0 t.key c.args.seat.now c.args.self.now c.seat.view_is c.self.view_is c.requires.seat,
      head_within t.table_id.words t.key c.self.invariant.1,
      split_allowed _ t.key s.id (s.me.0.count - half_as_many s.me.0.count) s.me.0 (omega arith) (omega arith),
    )

pub of-requires-clause-numbers : goal.of-requires-clause-numbers
of-requires-clause-numbers g c =
    let s = c.seat.inside.inner in
    let held = c.seat.invariant in
    let made = c.split_seat-inner.ensures.4 in (
      ap (λ m. m.0.first) made ∙ back_first s.me.0.first s.me.0.count c.seat.inside.first c.seat.inside.count (sym held.1) (sym held.2),
      ap (λ m. m.0.count) made ∙ back_count s.me.0.count c.seat.inside.count (sym held.2),
    )

pub invariant_of-seat : goal.invariant_of-seat
invariant_of-seat g c =
    let s = c.seat.inside.inner in
    let held = c.seat.invariant in
    let kept = c.split_seat-inner.ensures.2 in
    let count = held.2 in
    let within = held.4 in
    let some_count = held.3 in
    let half = half_below c.seat.inside.count some_count in (
      ap (λ m. m.1) kept ∙ held.0,
      held.1 ∙ sym (ap (λ m. m.0.first) kept),
      front_count s.me.0.count c.seat.inside.count (sym held.2) ∙ sym (ap (λ m. m.0.count) kept),
      omega arith,
      omega arith,
    )
