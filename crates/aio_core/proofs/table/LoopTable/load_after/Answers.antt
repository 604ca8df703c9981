use Rattle.std.proofs.Common.{◌≡◌, ◌<◌, ◌+◌, ◌∷◌, drop, None, sym, ap, subst, arith}
use Rattle.aio_core.specs.Known.{Known}
use Rattle.aio_core.specs.Standing.{Lifts}
use Rattle.aio_core.proofs.Lifting.{lift_allowed}
use Rattle.aio_core.proofs.Opened.{same_table, seat_still, held_still, held_numbers, next_within, home_opened}
use Rattle.aio_core.proofs.table.LoopTable.load_after.Goals as goal

pub load-requires : goal.load-requires
load-requires g c =
    let s = c.seat.inside.inner in
    let t = c.self.inside.table.shared in
    let bh = c.args.bh in
    let handle : bh < t.key.handles = subst (λ z. bh < z.sizes.handles) (sym c.self.view_is) c.requires.handle in
    let first : s.me.0.stage.slices ≡ (bh + 1) ∷ drop 1 s.me.0.stage.slices = subst (λ z. z.known.stage.slices ≡ (bh + 1) ∷ drop 1 z.known.stage.slices) (sym c.seat.view_is) c.requires.first in
    let free : s.me.0.stage.hand ≡ None = subst (λ z. z.known.stage.hand ≡ None) (sym c.seat.view_is) c.requires.free in (
      same_table s.table_id t.table_id s.me.0 t.key c.args.seat.now c.args.self.now c.seat.view_is c.self.view_is c.requires.seat,
      next_within t.table_id.words c.next_word.result bh t.key c.self.invariant.1 c.next_word.ensures (omega arith),
      rw c.next_word.ensures (lift_allowed _ t.key t.table_id.slots s.id bh (drop 1 s.me.0.stage.slices) s.me (held_numbers s.me _ _ c.seat.invariant) (home_opened s.table_id s.me.0 c.args.seat.now c.seat.view_is c.requires.number) handle first free),
    )

pub invariant_of-seat : goal.invariant_of-seat
invariant_of-seat g c =
    let s = c.seat.inside.inner in
    let bh = c.args.bh in
    let first : s.me.0.stage.slices ≡ (bh + 1) ∷ drop 1 s.me.0.stage.slices = subst (λ z. z.known.stage.slices ≡ (bh + 1) ∷ drop 1 z.known.stage.slices) (sym c.seat.view_is) c.requires.first in
    let told = c.load.ensures.2 in
    let step = (told.1 bh (drop 1 s.me.0.stage.slices) first).rest in
    held_still s.me c.load.new.seat.me _ _ c.seat.invariant told.0 (ap (λ (k : Known). k.first) step) (ap (λ (k : Known). k.count) step)

pub returns-clause-seat : goal.returns-clause-seat
returns-clause-seat g c =
    let s = c.seat.inside.inner in
    let bh = c.args.bh in
    let first : s.me.0.stage.slices ≡ (bh + 1) ∷ drop 1 s.me.0.stage.slices = subst (λ z. z.known.stage.slices ≡ (bh + 1) ∷ drop 1 z.known.stage.slices) (sym c.seat.view_is) c.requires.first in
    let step = (c.load.ensures.2.1 bh (drop 1 s.me.0.stage.slices) first).rest in
    seat_still s.table_id c.load.new.seat.table_id s.me.0 c.load.new.seat.me.0 c.args.seat.now c.args.self.now c.seat.view_is c.requires.seat c.load.ensures.0 (ap (λ (k : Known). k.sizes) step)

pub returns-clause-step : goal.returns-clause-step
returns-clause-step g c =
    let s = c.seat.inside.inner in
    let bh = c.args.bh in
    let first : s.me.0.stage.slices ≡ (bh + 1) ∷ drop 1 s.me.0.stage.slices = subst (λ z. z.known.stage.slices ≡ (bh + 1) ∷ drop 1 z.known.stage.slices) (sym c.seat.view_is) c.requires.first in
    subst (λ z. Lifts bh c.load.result None (drop 1 z.known.stage.slices) z.known c.load.new.seat.me.0) c.seat.view_is (c.load.ensures.2.1 bh (drop 1 s.me.0.stage.slices) first)
