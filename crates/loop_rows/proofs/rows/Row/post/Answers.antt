use Rattle.std.proofs.Common.{◌<◌, ◌∙◌, refl, sym, subst, length-set}
use Rattle.co_schedule.specs.Parcels.{IsStateOf}
use Rattle.loop_rows.specs.declared.shared.LoopShared.{LoopShared}
use Rattle.loop_rows.specs.declared.seats.Seats.{Seats}
use Rattle.loop_rows.specs.Rows.{AreSeatsOf}
use Rattle.loop_rows.proofs.Places.{as_read}
use Rattle.loop_rows.proofs.RowSteps.{each_posted}
use Rattle.loop_rows.proofs.rows.Row.post.Goals as goal

pub post-requires-clause-seats : goal.post-requires-clause-seats
post-requires-clause-seats g c =
    let t = c.index-shared-to.result in
    let s = c.index_mut.result.now in
    let at = as_read (λ (x : LoopShared _ _) (y : Seats _ _). AreSeatsOf c.args.self.now.first c.args.self.now.count x y) c.args.shared.now c.args.self.now.seats.items c.args.to t s c.index-shared-to.is c.index_mut.ensures.value (c.requires.row.each c.args.to t s c.requires.to) in
    record { bottoms = at.bottoms; coroutines = at.coroutines }

pub post-requires-clause-below : goal.post-requires-clause-below
post-requires-clause-below g c =
    subst (λ (x : LoopShared g.row.C.Denot g.row.C-Source.Denot). c.args.co < x.coroutines.coroutines) (sym c.index-shared-to.is) (c.requires.below c.index-shared-to.result)

pub post-requires-clause-state : goal.post-requires-clause-state
post-requires-clause-state g c =
    subst (λ (x : LoopShared g.row.C.Denot g.row.C-Source.Denot). IsStateOf g.C.Origin.is_of c.args.co x.coroutines.origin c.args.state) (sym c.index-shared-to.is) (c.requires.state c.index-shared-to.result)

pub returns-clause-row : goal.returns-clause-row
returns-clause-row g c =
    let row = c.requires.row in
    let v = c.post.new.seats in (
      record {
        long = length-set c.args.self.now.seats.items c.args.to v ∙ row.long;
        below = row.below;
        each = each_posted c.args.shared.now c.args.self.now.seats.items c.args.self.now.first c.args.self.now.count c.args.to c.index-shared-to.result c.index_mut.result.now v c.requires.to row.long c.index-shared-to.is c.index_mut.ensures.value row.each c.post.ensures.seats c.post.ensures.numbers;
      },
      record { first_is = refl; count_is = refl },
    )
