use Rattle.std.proofs.Common.{sym, ap, subst}
use Rattle.aio_model.specs.Loop.History.{Free}
use Rattle.aio_model.specs.Loop.Legal.{MayFollow}
use Rattle.aio_core.specs.Known.{Known}
use Rattle.aio_core.specs.Standing.{Frees}
use Rattle.aio_core.proofs.Lives.{lot_below}
use Rattle.aio_core.proofs.Freeing.{free_allowed}
use Rattle.aio_core.proofs.Opened.{same_table, held_numbers, flags_within, home_opened, held_still, seat_still}
use Rattle.aio_core.proofs.table.LoopTable.store_free.Goals as goal

pub store-requires : goal.store-requires
store-requires g c =
    let s = c.seat.inside.inner in
    let t = c.self.inside.table.shared in
    let may : MayFollow t.key (Free c.args.bh) s.me.0.seen = subst (λ z. MayFollow z.sizes (Free c.args.bh) s.me.0.seen) (sym c.self.view_is) (subst (λ z. MayFollow c.args.self.now.sizes (Free c.args.bh) z.known.seen) (sym c.seat.view_is) c.requires.done) in
    let allowed = free_allowed g.J.Job.number_of t.key t.table_id.slots s.id c.args.bh s.me (held_numbers s.me _ _ c.seat.invariant) (home_opened s.table_id s.me.0 c.args.seat.now c.seat.view_is c.requires.number) may in (
      same_table s.table_id t.table_id s.me.0 t.key c.args.seat.now c.args.self.now c.seat.view_is c.self.view_is c.requires.seat,
      flags_within t.table_id.words c.flags_word.result c.args.bh t.key c.self.invariant.1 c.flags_word.ensures (lot_below t.key c.args.bh may.0),
      rw c.flags_word.ensures allowed,
    )

pub invariant_of-seat : goal.invariant_of-seat
invariant_of-seat g c =
    let s = c.seat.inside.inner in
    let told = c.store.ensures.2 in
    let step = (told.1 c.args.bh c.flags_word.ensures).rest in
    held_still s.me c.store.new.seat.me _ _ c.seat.invariant told.0 (ap (λ (k : Known). k.first) step) (ap (λ (k : Known). k.count) step)

pub returns-clause-seat : goal.returns-clause-seat
returns-clause-seat g c =
    let s = c.seat.inside.inner in
    let step = (c.store.ensures.2.1 c.args.bh c.flags_word.ensures).rest in
    seat_still s.table_id c.store.new.seat.table_id s.me.0 c.store.new.seat.me.0 c.args.seat.now c.args.self.now c.seat.view_is c.requires.seat c.store.ensures.0 (ap (λ (k : Known). k.sizes) step)

pub returns-clause-step : goal.returns-clause-step
returns-clause-step g c =
    subst (λ z. Frees c.args.bh z.known c.store.new.seat.me.0) c.seat.view_is (c.store.ensures.2.1 c.args.bh c.flags_word.ensures)
