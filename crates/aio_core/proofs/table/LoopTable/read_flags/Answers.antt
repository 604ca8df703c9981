use Rattle.std.proofs.Common.{◌<◌, sym, ap, subst}
use Rattle.aio_core.specs.Known.{Known, ScanFlagsLoad}
use Rattle.aio_core.specs.Standing.{Looks}
use Rattle.aio_core.specs.Words.{flags_at, index_count}
use Rattle.aio_core.proofs.Settling.{flags_told_allowed}
use Rattle.aio_core.proofs.Opened.{same_table, seat_still, held_still, held_numbers, flags_within}
use Rattle.aio_core.proofs.table.LoopTable.read_flags.Goals as goal

pub load-requires : goal.load-requires
load-requires g c =
    let s = c.seat.inside.inner in
    let t = c.self.inside.table.shared in
    let bh = c.args.bh in
    let below : bh < index_count t.key = subst (λ z. bh < index_count z.sizes) (sym c.self.view_is) c.requires.below in (
      same_table s.table_id t.table_id s.me.0 t.key c.args.seat.now c.args.self.now c.seat.view_is c.self.view_is c.requires.seat,
      flags_within t.table_id.words c.flags_word.result bh t.key c.self.invariant.1 c.flags_word.ensures below,
      rw c.flags_word.ensures (flags_told_allowed _ t.key t.table_id.slots s.id bh s.me (held_numbers s.me _ _ c.seat.invariant) below),
    )

pub invariant_of-seat : goal.invariant_of-seat
invariant_of-seat g c =
    let told = c.load.ensures.2 in
    let step = (told.1 c.args.bh c.flags_word.ensures).0.rest in
    held_still c.seat.inside.inner.me c.load.new.seat.me _ _ c.seat.invariant told.0 (ap (λ (k : Known). k.first) step) (ap (λ (k : Known). k.count) step)

pub returns-clause-seat : goal.returns-clause-seat
returns-clause-seat g c =
    let told = c.load.ensures.2 in
    let step = (told.1 c.args.bh c.flags_word.ensures).0.rest in
    seat_still c.seat.inside.inner.table_id c.load.new.seat.table_id c.seat.inside.inner.me.0 c.load.new.seat.me.0 c.args.seat.now c.args.self.now c.seat.view_is c.requires.seat c.load.ensures.0 (ap (λ (k : Known). k.sizes) step)

pub returns-clause-step : goal.returns-clause-step
returns-clause-step g c =
    let told = c.load.ensures.2 in
    subst (λ z. Looks ScanFlagsLoad (flags_at c.args.bh) c.load.result z.known c.load.new.seat.me.0) c.seat.view_is (told.1 c.args.bh c.flags_word.ensures).0
