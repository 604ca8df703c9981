use Rattle.std.proofs.Common.{sym, ap, ◌∙◌}
use mathlib.Core.Option.{none}
use Rattle.atomic_table.specs.Table.{step}
use Rattle.co_schedule.specs.Words.{head_at}
use Rattle.co_schedule.specs.Slots.{Kept}
use Rattle.co_schedule.specs.Parcels.{given_in, IsParcelOf}
use Rattle.co_schedule.specs.Plays.{learned}
use Rattle.co_schedule.proofs.Learning.{learn_allowed}
use Rattle.co_schedule.proofs.Opened.{head_within, with_origin}
use Rattle.co_schedule.proofs.table.CoTable.learn.Goals as goal

pub load-requires : goal.load-requires
load-requires g c =
    let s = c.args.inner.now in
    let t = c.self.inside.table.shared in
    let of = IsParcelOf g.C.Origin.is_of t.key.origin.value in
    let kept = Kept given_in of t.key.coroutines in (
      c.requires.table ∙ sym (ap (λ z. z.table) c.self.view_is),
      head_within t.table_id.words t.key.coroutines c.self.invariant.1,
      with_origin kept t.key.origin.value t.table_id.slots s.id head_at s.me (λ k. k) learned (step t.table_id.slots head_at 0 0 none) c.requires.numbers (learn_allowed given_in of t.key.coroutines t.table_id.slots s.id (s.me.0.known, s.me.1) c.requires.numbers),
    )
