use Rattle.std.proofs.Common.{subst, sym}
use Rattle.co_schedule.specs.Parcels.{IsStateOf}
use Rattle.loop_rows.specs.declared.shared.LoopShared.{LoopShared}
use Rattle.co_loop.proofs.Rowed.{row_set}
use Rattle.co_loop.proofs.posting.post_to.Goals as goal

pub post-requires-clause-state : goal.post-requires-clause-state
post-requires-clause-state g c =
    subst (λ (x : LoopShared g.row.C.Denot g.row.C-Source.Denot). IsStateOf g.C.Origin.is_of c.args.co x.coroutines.origin c.args.state) (sym c.index-shared-to.is) (c.requires.state c.index-shared-to.result)

pub returns-clause-row : goal.returns-clause-row
returns-clause-row g c =
    row_set c.args.coroutines c.args.shared.now c.args.seats.now.items c.args.to c.post.new.seats c.index-shared-to.result c.requires.to c.index-shared-to.is c.post.ensures.seats c.requires.row
