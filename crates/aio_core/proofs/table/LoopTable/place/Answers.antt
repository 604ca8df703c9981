use Rattle.std.proofs.Common.{sym, ◌∙◌}
use Rattle.aio_core.proofs.OneShots.{same_placed}
use Rattle.aio_core.proofs.Opened.{held_still, seat_still}
use Rattle.aio_core.proofs.table.LoopTable.place.Goals as goal

pub invariant_of-seat : goal.invariant_of-seat
invariant_of-seat g c =
    let s = c.seat.inside.inner in
    let same = same_placed _ _ _ _ _ _ (c.deliver.ensures.told c.requires.job.0 c.requires.job.1) in
    held_still s.me c.deliver.new.inner.me _ _ c.seat.invariant (c.deliver.ensures.seat.2 ∙ sym c.seat.invariant.0) same.1 same.2

pub returns-clause-seat : goal.returns-clause-seat
returns-clause-seat g c =
    let s = c.seat.inside.inner in
    let same = same_placed _ _ _ _ _ _ (c.deliver.ensures.told c.requires.job.0 c.requires.job.1) in
    seat_still s.table_id c.deliver.new.inner.table_id s.me.0 c.deliver.new.inner.me.0 c.args.seat.now c.args.self.now c.seat.view_is c.requires.seat.of c.deliver.ensures.seat.0 same.0
