use Rattle.std.proofs.Common.{ap, ◌∙◌}
use Rattle.co_schedule.specs.Known.{Known}
use Rattle.co_schedule.specs.Parcels.{has_some}
use Rattle.co_schedule.proofs.StatesTaken.{counts_begun}
use Rattle.co_schedule.proofs.table.CoTable.begin.Goals as goal

pub invariant_of-home : goal.invariant_of-home
invariant_of-home g c =
    let held = c.home.invariant in
    let done = c.begin_first-state.ensures in
    let rest = done.begun.rest in (
      done.seat.3,
      ap (λ (k : Known). k.first) rest ∙ held.1,
      ap (λ (k : Known). k.count) rest ∙ held.2,
      ap (λ (k : Known). k.phase) rest ∙ held.3,
      done.over.0,
      done.over.1,
      done.over.2,
      done.within,
      counts_begun c.in_ok-co.co (has_some c.begin_first-state.result) c.home.inside.states c.count_state-home-inside.result c.home.inside.inner.me.0.known c.begin_first-state.new.inner.me.0.known held.1 held.2 done.begun c.count_state-home-inside.ensures held.8,
    )
