use Rattle.std.proofs.Common.{rules, drop, sym, ◌∙◌}
use Rattle.co_schedule.specs.Standing.{BeginsFirst}
use Rattle.co_schedule.specs.Parcels.{has_some}
use Rattle.co_schedule.proofs.CallsStand.{begun, begun_over, begun_within}
use Rattle.co_schedule.proofs.table.CoTable.begin_first.Goals as goal

pub returns-clause-begun : goal.returns-clause-begun
returns-clause-begun g c =
    let steps : BeginsFirst c.args.co (has_some c.state_of.result) (drop 1 c.args.inner.now.me.0.known.stage.run) c.args.inner.now.me.0.known c.clear_mark.new.inner.me.0.known = search rules in
    begun c.args.co (has_some c.state_of.result) (drop 1 c.args.inner.now.me.0.known.stage.run) c.args.inner.now.me.0.known c.clear_mark.new.inner.me.0.known c.requires.numbers.0 (sym c.requires.taken ∙ c.requires.run.0) steps

pub returns-clause-over : goal.returns-clause-over
returns-clause-over g c =
    begun_over c.args.co (has_some c.state_of.result) c.args.inner.now.me.0.known c.clear_mark.new.inner.me.0.known (returns-clause-begun g c) c.requires.run.1

pub returns-clause-within : goal.returns-clause-within
returns-clause-within g c =
    begun_within c.args.co (has_some c.state_of.result) c.args.inner.now.me.0.known c.clear_mark.new.inner.me.0.known (returns-clause-begun g c) c.requires.within
