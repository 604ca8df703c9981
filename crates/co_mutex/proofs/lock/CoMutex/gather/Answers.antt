use Rattle.std.proofs.Common.{arith, ap, sym, ◌∙◌, subst, ◌≡◌, ◌⊎◌, List}
use mathlib.Core.Option.{some}
use Rattle.atomic_table.specs.declared.shared.Seat.{Seat}
use Rattle.co_mutex.specs.declared.slot.Slot.{Slot}
use Rattle.co_mutex.specs.declared.view.View.{View}
use Rattle.co_mutex.specs.declared.lock.Pass.{Pass}
use Rattle.co_mutex.specs.Closing.{In}
use Rattle.co_mutex.specs.Known.{Known}
use Rattle.co_mutex.specs.Opening.{part_of, parts_of, joined}
use Rattle.co_mutex.specs.Passes.{known}
use Rattle.co_mutex.proofs.Codes.{M}
use Rattle.co_mutex.proofs.Gathering.{in_last, sub_step, kept_first, kept_step, kept_last, joined_wider, joined_other, joins, nil_of}
use Rattle.co_mutex.proofs.lock.CoMutex.gather.Goals as goal

pub loop-pass-init : goal.loop-pass-init
loop-pass-init g c =
    let x = c.in-Some.first in
    let rest = c.pop.new.self.items in
    let e = c.in-Some.ensures.items in
    let each = c.requires.1.each x (subst (λ (z : List (Pass g.row.P.Denot g.row.P-Value.Denot g.row.P-Note.Denot)). In x z) (sym e) (in_last rest x)) in
    let same = c.into_seat-all.ensures in (
      ap (λ (s : Seat (Slot g.row.P-Value.Denot) (View g.row.P-Value.Denot)). s.table_id) same ∙ each.0.of.table,
      ap (λ (s : Seat (Slot g.row.P-Value.Denot) (View g.row.P-Value.Denot)). s.me.0.live) same ∙ each.0.of.live,
      ap (λ (s : Seat (Slot g.row.P-Value.Denot) (View g.row.P-Value.Denot)). s.me.0.place) same ∙ each.1,
      sub_step _ c.args.passes.items rest x e (λ p t. t),
      kept_first (λ p. part_of (known p)) c.args.passes.items rest x (parts_of c.into_seat-all.result.me.0) e (ap (λ (s : Seat (Slot g.row.P-Value.Denot) (View g.row.P-Value.Denot)). some (part_of s.me.0)) same),
    )

pub join_seat-requires : goal.join_seat-requires
join_seat-requires g c =
    let x = c.in-Some-pop.pass in
    let rest = c.pop-in-loop-pass.new.self.items in
    let e = c.in-Some-pop.ensures.items in
    let each = c.requires.1.each x (c.loop-pass.invariant.3 x (subst (λ (z : List (Pass g.row.P.Denot g.row.P-Value.Denot g.row.P-Note.Denot)). In x z) (sym e) (in_last rest x))) in
    let same = c.into_seat.ensures in (
      c.loop-pass.invariant.0,
      ap (λ (s : Seat (Slot g.row.P-Value.Denot) (View g.row.P-Value.Denot)). s.table_id) same ∙ each.0.of.table,
      ap (λ (s : Seat (Slot g.row.P-Value.Denot) (View g.row.P-Value.Denot)). s.me.1) same ∙ each.0.hand ∙ ap Rattle.co_mutex.specs.Passes.hand_of each.1,
      (let a = c.args.self.now.sized.0 in omega (arith, a)),
      joins g.P.LockRule.note _ _ _ _ c.loop-pass.all.me.0 c.into_seat.result.me.0 c.loop-pass.invariant.1 (ap (λ (s : Seat (Slot g.row.P-Value.Denot) (View g.row.P-Value.Denot)). s.me.0.live) same ∙ each.0.of.live) (ap (λ (s : Seat (Slot g.row.P-Value.Denot) (View g.row.P-Value.Denot)). s.me.0.place) same ∙ each.1),
    )

pub loop-pass-preserved : goal.loop-pass-preserved
loop-pass-preserved g c =
    let x = c.in-Some-pop.pass in
    let rest = c.pop-in-loop-pass.new.self.items in
    let e = c.in-Some-pop.ensures.items in
    let same = c.into_seat.ensures in
    let new : c.join_seat.new.seat.me.0 ≡ joined c.loop-pass.all.me.0 c.into_seat.result.me.0 = ap (λ (m : M g.row.P-Value.Denot). m.0) c.join_seat.ensures.2 in
    let part : part_of c.into_seat.result.me.0 ≡ part_of (known x) = ap (λ (s : Seat (Slot g.row.P-Value.Denot) (View g.row.P-Value.Denot)). part_of s.me.0) same in (
      c.join_seat.ensures.0 ∙ c.loop-pass.invariant.0,
      ap (λ (v : Known g.row.P-Value.Denot). v.live) new ∙ c.loop-pass.invariant.1,
      ap (λ (v : Known g.row.P-Value.Denot). v.place) new ∙ c.loop-pass.invariant.2,
      sub_step _ c.loop-pass.passes.items rest x e c.loop-pass.invariant.3,
      subst (λ (v : Known g.row.P-Value.Denot). (p : Pass g.row.P.Denot g.row.P-Value.Denot g.row.P-Note.Denot) → In p c.args.passes.items → In p rest ⊎ In (part_of (known p)) (parts_of v)) (sym new) (kept_step (λ p. part_of (known p)) _ c.loop-pass.passes.items rest x (parts_of c.loop-pass.all.me.0) (parts_of (joined c.loop-pass.all.me.0 c.into_seat.result.me.0)) e (joined_wider c.loop-pass.all.me.0 c.into_seat.result.me.0) (subst (λ y. In y (parts_of (joined c.loop-pass.all.me.0 c.into_seat.result.me.0))) part (joined_other c.loop-pass.all.me.0 c.into_seat.result.me.0)) c.loop-pass.invariant.4),
    )

pub returns-clause-parts : goal.returns-clause-parts
returns-clause-parts g c =
    kept_last (λ p. part_of (known p)) _ c.loop-pass.passes.items (parts_of c.loop-pass.all.me.0) (nil_of c.loop-pass.passes.items (let a = c.loop-pass.passes.ok.0 in let b = c.in_default-pop.ensures.cases.0 in omega (arith, a, b))) c.loop-pass.invariant.4
