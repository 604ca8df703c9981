use Rattle.std.proofs.Common.{sym, ap, ◌∙◌}
use Rattle.co_schedule.specs.Known.{Known}
use Rattle.co_schedule.specs.States.{states_given}
use Rattle.co_schedule.proofs.StatesTaken.{all_taken}
use Rattle.co_schedule.proofs.table.CoTable.end.Goals as goal
use Rattle.aio_model.specs.Counts.{counted}

pub of-requires : goal.of-requires
of-requires g c =
    let same = ap (λ (k : Known). states_given k.seen) c.first_marked.ensures.same in
    c.gather-inner.ensures.states ∙ sym (ap counted (same ∙ all_taken c.args.self.coroutines c.gather-inner.result.0.me.0.known.seen c.gather-inner.ensures.parts.legal c.in-None.ensures.found))
