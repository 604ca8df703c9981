use Rattle.std.proofs.Common.{◌≡◌, sym, subst}
use Rattle.aio_model.specs.Loop.InFlight.{Linked}
use Rattle.aio_core.proofs.Pushing.{head_compare_allowed, compared_keeps}
use Rattle.aio_core.proofs.Opened.{same_table, seat_still, held_still, held_numbers, head_within}
use Rattle.aio_core.proofs.table.LoopTable.compare_head.Goals as goal

pub compare_exchange-requires : goal.compare_exchange-requires
compare_exchange-requires g c =
    let s = c.seat.inside.inner in
    let t = c.self.inside.table.shared in
    let bh = c.args.bh in
    let phase : s.me.0.phase ≡ Linked bh c.args.head = subst (λ z. z.known.phase ≡ Linked bh c.args.head) (sym c.seat.view_is) c.requires.phase in (
      same_table s.table_id t.table_id s.me.0 t.key c.args.seat.now c.args.self.now c.seat.view_is c.self.view_is c.requires.seat,
      head_within t.table_id.words t.key c.self.invariant.1,
      rw c.from.ensures (head_compare_allowed _ t.key t.table_id.slots s.id bh c.args.head s.me (held_numbers s.me _ _ c.seat.invariant) phase),
    )

pub invariant_of-seat : goal.invariant_of-seat
invariant_of-seat g c =
    let s = c.seat.inside.inner in
    let phase : s.me.0.phase ≡ Linked c.args.bh c.args.head = subst (λ z. z.known.phase ≡ Linked c.args.bh c.args.head) (sym c.seat.view_is) c.requires.phase in
    let told = c.compare_exchange.ensures.2 in
    let kept = compared_keeps c.args.bh c.compare_exchange.result c.args.head s.me.0 c.compare_exchange.new.seat.me.0 (told.1 c.args.bh c.args.head phase) in
    held_still s.me c.compare_exchange.new.seat.me _ _ c.seat.invariant told.0 kept.1 kept.2

pub returns-clause-seat : goal.returns-clause-seat
returns-clause-seat g c =
    let s = c.seat.inside.inner in
    let phase : s.me.0.phase ≡ Linked c.args.bh c.args.head = subst (λ z. z.known.phase ≡ Linked c.args.bh c.args.head) (sym c.seat.view_is) c.requires.phase in
    let told = c.compare_exchange.ensures.2 in
    let kept = compared_keeps c.args.bh c.compare_exchange.result c.args.head s.me.0 c.compare_exchange.new.seat.me.0 (told.1 c.args.bh c.args.head phase) in
    seat_still s.table_id c.compare_exchange.new.seat.table_id s.me.0 c.compare_exchange.new.seat.me.0 c.args.seat.now c.args.self.now c.seat.view_is c.requires.seat c.compare_exchange.ensures.0 kept.0
