use Rattle.std.proofs.Common.{◌<◌, sym, ap, ◌∙◌, subst, arith}
use Rattle.table_seats.proofs.Splitting.{half_below, back_first, back_count, front_count}
use Rattle.co_schedule.specs.Slots.{Kept}
use Rattle.co_schedule.specs.Parcels.{given_in, IsParcelOf}
use Rattle.co_schedule.specs.Seating.{front_known, back_known, half_cut}
use Rattle.co_schedule.proofs.Seating.{split_allowed}
use Rattle.co_schedule.proofs.OriginsDivided.{splits_of}
use Rattle.co_schedule.proofs.Opened.{head_within}
use Rattle.co_schedule.proofs.table.CoTable.cut.Goals as goal

pub split_seat-inner-requires : goal.split_seat-inner-requires
split_seat-inner-requires g c =
    let s = c.seat.inside.inner in
    let t = c.self.inside.table.shared in
    let v = s.me.0.known in
    let of = IsParcelOf g.C.Origin.is_of t.key.origin.value in
    let many : 1 < v.count = subst (λ z. 1 < z.known.count) (sym c.seat.view_is) c.requires.many in
    let half = half_below v.count (omega arith) in (
      ap (λ z. z.table) c.seat.view_is ∙ c.requires.seat.tables ∙ sym (ap (λ z. z.table) c.self.view_is),
      head_within t.table_id.words t.key.coroutines c.self.invariant.1,
      splits_of (Kept given_in of t.key.coroutines) t.key.origin.value s.id s.me.0 (front_known (half_cut v) v) (back_known (half_cut v) v) (omega arith) (split_allowed given_in of t.key.coroutines s.id (half_cut v) v (omega arith) (omega arith)),
    )

pub of-requires-clause-numbers : goal.of-requires-clause-numbers
of-requires-clause-numbers g c =
    let s = c.seat.inside.inner in
    let held = c.seat.invariant in
    let made = c.split_seat-inner.ensures.4 in (
      ap (λ m. m.0.known.first) made ∙ back_first s.me.0.known.first s.me.0.known.count c.seat.inside.first c.seat.inside.count (sym held.1) (sym held.2),
      ap (λ m. m.0.known.count) made ∙ back_count s.me.0.known.count c.seat.inside.count (sym held.2),
    )

pub invariant_of-seat : goal.invariant_of-seat
invariant_of-seat g c =
    let s = c.seat.inside.inner in
    let held = c.seat.invariant in
    let kept = c.split_seat-inner.ensures.2 in
    let count = held.2 in
    let within = held.4 in
    let some_count = held.3 in
    let half = half_below c.seat.inside.count some_count in (
      ap (λ m. m.1) kept ∙ held.0,
      held.1 ∙ sym (ap (λ m. m.0.known.first) kept),
      front_count s.me.0.known.count c.seat.inside.count (sym held.2) ∙ sym (ap (λ m. m.0.known.count) kept),
      omega arith,
      omega arith,
      ap (λ m. m.0.known.phase) kept ∙ held.5,
    )
