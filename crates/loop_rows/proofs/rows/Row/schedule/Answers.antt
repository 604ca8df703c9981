use Rattle.std.proofs.Common.{◌∙◌, refl, length-set}
use Rattle.loop_rows.proofs.RowSteps.{each_set}
use Rattle.loop_rows.proofs.rows.Row.schedule.Goals as goal

pub returns-clause-row : goal.returns-clause-row
returns-clause-row g c =
    let row = c.requires.row in
    let v = c.schedule_at.new.seats in (
      record {
        long = length-set c.args.self.now.seats.items c.args.to v ∙ row.long;
        below = row.below;
        each = each_set c.args.shared.now c.args.self.now.seats.items c.args.self.now.first c.args.self.now.count c.args.to c.index-shared-to.result c.index_mut.result.now v c.requires.to row.long c.index-shared-to.is c.index_mut.ensures.value row.each c.schedule_at.ensures.seats;
      },
      record { first_is = refl; count_is = refl },
    )
