use Rattle.std.proofs.Common.{sym, ap, ◌∙◌}
use Rattle.co_schedule.specs.Known.{numbers_of}
use Rattle.co_schedule.proofs.StatesTaken.{home_owns, taken_in_whole}
use Rattle.co_schedule.proofs.table.CoTable.gather.Goals as goal
use Rattle.aio_model.specs.Counts.{counted}

pub returns-clause-states : goal.returns-clause-states
returns-clause-states g c =
    let home = c.home.inside.inner.me.0.known in
    let held = c.home.invariant in
    let parts = c.join_inner.ensures.parts in
    held.8.1 ∙ sym (ap counted (taken_in_whole (numbers_of home) home.seen home.mine c.join_inner.new.inner.me.0.known.seen (home_owns home held.1 held.2) held.8.0 parts.joined parts.made_by_joining))
