use Rattle.std.proofs.Common.{◌<◌, sym, ap, ◌∙◌, subst}
use mathlib.Core.Option.{none}
use Rattle.atomic_table.specs.Table.{step}
use Rattle.co_schedule.specs.Words.{mark_at}
use Rattle.co_schedule.specs.Slots.{Kept}
use Rattle.co_schedule.specs.Parcels.{given_in, IsParcelOf}
use Rattle.co_schedule.specs.Plays.{mark_seen}
use Rattle.co_schedule.proofs.Looking.{mark_look_allowed}
use Rattle.co_schedule.proofs.Opened.{mark_within, all_numbers, some_numbers, with_origin}
use Rattle.co_schedule.proofs.table.CoTable.look_at_mark.Goals as goal

pub load-requires : goal.load-requires
load-requires g c =
    let s = c.args.inner.now in
    let t = c.self.inside.table.shared in
    let co = c.args.co in
    let low : co < t.key.coroutines = subst (λ z. co < z.coroutines) (sym c.self.view_is) c.requires.below in
    let of = IsParcelOf g.C.Origin.is_of t.key.origin.value in
    let kept = Kept given_in of t.key.coroutines in (
      c.requires.table ∙ sym (ap (λ z. z.table) c.self.view_is),
      mark_within t.table_id.words c.mark_word.result co t.key.coroutines c.self.invariant.1 c.mark_word.ensures low,
      rw c.mark_word.ensures (with_origin kept t.key.origin.value t.table_id.slots s.id (mark_at co) s.me (λ k. k) mark_seen (step t.table_id.slots (mark_at co) 0 0 none) (some_numbers s.me.0.known c.requires.numbers.1) (mark_look_allowed given_in of t.key.coroutines t.table_id.slots s.id co (s.me.0.known, s.me.1) low (all_numbers s.me.0.known c.requires.numbers.0 c.requires.numbers.1))),
    )

pub returns-clause-looks : goal.returns-clause-looks
returns-clause-looks g c = (c.load.ensures.2.1.1 c.args.co c.mark_word.ensures).0

pub returns-clause-mark : goal.returns-clause-mark
returns-clause-mark g c = (c.load.ensures.2.1.1 c.args.co c.mark_word.ensures).1
