use Rattle.std.proofs.Common.{sym, ap, ◌∙◌, arith}
use Rattle.co_schedule.specs.Slots.{Kept}
use Rattle.co_schedule.specs.Parcels.{given_in, IsParcelOf}
use Rattle.co_schedule.specs.Seating.{front_known, back_known}
use Rattle.co_schedule.proofs.Seating.{split_allowed}
use Rattle.co_schedule.proofs.OriginsDivided.{splits_of}
use Rattle.co_schedule.proofs.Opened.{head_within}
use Rattle.co_schedule.proofs.table.CoTable.open.Goals as goal

pub split_seat-home-requires : goal.split_seat-home-requires
split_seat-home-requires g c =
    let s = c.args.inner in
    let t = c.self.inside.table.shared in
    let v = s.me.0.known in
    let of = IsParcelOf g.C.Origin.is_of t.key.origin.value in
    let count = c.requires.numbers.1 in (
      c.requires.table ∙ sym (ap (λ z. z.table) c.self.view_is),
      head_within t.table_id.words t.key.coroutines c.self.invariant.1,
      splits_of (Kept given_in of t.key.coroutines) t.key.origin.value s.id s.me.0 (front_known 64 v) (back_known 64 v) (omega arith) (split_allowed given_in of t.key.coroutines s.id 64 v (omega arith) (omega arith)),
    )
