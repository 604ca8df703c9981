use Rattle.std.proofs.Common.{◌<◌, subst, sym}
use Rattle.loop_rows.specs.declared.seats.Seats.{Seats}
use Rattle.co_loop.specs.Quits.{SetsEnd}
use Rattle.co_loop.proofs.Rowed.{row_set}
use Rattle.co_loop.proofs.Ended.{sets_one_more}
use Rattle.co_loop.proofs.quitting.set_ends.Goals as goal

pub loop-at-preserved : goal.loop-at-preserved
loop-at-preserved g c =
    let was = c.loop-at.invariant in
    let found = c.index_mut.result.now in (
      row_set c.args.coroutines c.args.shared.now c.loop-at.seats.items c.loop-at.at c.set_end.new.seats c.index-shared-at.result c.loop-at-test.true c.index-shared-at.is c.set_end.ensures.seats was.0,
      sets_one_more c.loop-at.at c.args.seats.now.items c.loop-at.seats.items found c.set_end.new.seats was.1 (subst (λ l. c.loop-at.at < l) (sym was.0.long) c.loop-at-test.true)
          (subst (λ (x : Seats g.row.C.Denot g.row.C-Source.Denot). SetsEnd x c.set_end.new.seats) c.index_mut.ensures.value c.set_end.ensures.sets),
    )
