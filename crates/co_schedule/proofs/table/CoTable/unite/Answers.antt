use Rattle.std.proofs.Common.{refl, sym, ap, ◌∙◌}
use Rattle.co_schedule.specs.Slots.{Kept}
use Rattle.co_schedule.specs.Parcels.{given_in, IsParcelOf}
use Rattle.co_schedule.specs.Seating.{joined_known, spent_known}
use Rattle.co_schedule.proofs.Seating.{join_allowed}
use Rattle.co_schedule.proofs.OriginsDivided.{joins_of}
use Rattle.co_schedule.proofs.Opened.{head_within}
use Rattle.co_schedule.proofs.table.CoTable.unite.Goals as goal

pub join_seat-requires : goal.join_seat-requires
join_seat-requires g c =
    let s = c.args.inner.now in
    let o = c.args.other in
    let t = c.self.inside.table.shared in
    let of = IsParcelOf g.C.Origin.is_of t.key.origin.value in
    let here = sym (ap (λ z. z.table) c.self.view_is) in (
      c.requires.table.0 ∙ here,
      c.requires.table.1 ∙ here,
      c.requires.slots,
      head_within t.table_id.words t.key.coroutines c.self.invariant.1,
      joins_of (Kept given_in of t.key.coroutines) t.key.origin.value s.id o.id s.me.0 o.me.0 (joined_known s.me.0.known o.me.0.known) spent_known c.requires.numbers refl (join_allowed given_in of t.key.coroutines s.id o.id s.me.0.known o.me.0.known c.requires.next c.requires.numbers),
    )
