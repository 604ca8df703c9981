use Rattle.std.proofs.Common.{◌∙◌, refl, arith, length-set}
use Rattle.loop_rows.proofs.RowSteps.{each_set, coroutines_set}
use Rattle.loop_rows.proofs.rows.Row.set_event.Goals as goal

pub returns-clause-row : goal.returns-clause-row
returns-clause-row g c =
    let row = c.requires.row in
    let v = c.set_event_at.new.seats in (
      record {
        long = length-set c.args.self.now.seats.items c.args.to v ∙ row.long;
        below = row.below;
        each = each_set c.args.shared.now c.args.self.now.seats.items c.args.self.now.first c.args.self.now.count c.args.to c.index-shared-to.result c.index_mut.result.now v c.requires.to row.long c.index-shared-to.is c.index_mut.ensures.value row.each c.set_event_at.ensures.seats;
      },
      record { first_is = refl; count_is = refl },
    )

pub returns-clause-coroutines : goal.returns-clause-coroutines
returns-clause-coroutines g c =
    coroutines_set c.args.self.now.seats.items c.args.to c.index_mut.result.now c.set_event_at.new.seats (omega (arith, c.requires.to, c.requires.row.long)) c.index_mut.ensures.value c.set_event_at.ensures.same
