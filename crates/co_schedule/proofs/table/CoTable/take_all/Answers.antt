use Rattle.std.proofs.Common.{ap, ◌∙◌}
use Rattle.co_schedule.specs.Known.{Known}
use Rattle.co_schedule.proofs.StatesTaken.{counts_taken}
use Rattle.co_schedule.proofs.table.CoTable.take_all.Goals as goal

pub invariant_of-home : goal.invariant_of-home
invariant_of-home g c =
    let held = c.home.invariant in
    let done = c.take_list.ensures in
    let rest = done.taken.rest in (
      done.seat.3 ∙ held.0,
      ap (λ (k : Known). k.first) rest ∙ held.1,
      ap (λ (k : Known). k.count) rest ∙ held.2,
      ap (λ (k : Known). k.phase) rest ∙ held.3,
      done.over.0,
      done.over.1,
      done.over.2,
      done.within,
      counts_taken c.home.inside.states c.home.inside.inner.me.0.known c.take_list.new.inner.me.0.known held.1 held.2 done.taken held.8,
    )
