use Rattle.std.proofs.Common.{◌≡◌, option_map, true, sym, ap, ◌∙◌}
use Rattle.aio_model.specs.Loop.Flags.{are_due}
use Rattle.aio_model.specs.Loop.Frame.{Frame, nests_above}
use Rattle.aio_bh.specs.PollFrames.{far}
use Rattle.aio_bh.proofs.Steps.{GoesFurther-called, GoesFurther-passed, GoesFurther-renamed}
use Rattle.aio_bh.proofs.frames.call.Goals as goal

pub returns-then-not-is_due-clause-ends : goal.returns-then-not-is_due-clause-ends
returns-then-not-is_due-clause-ends g c _ =
    let a = c.args in
    GoesFurther-passed g.R.Runner.does (Frame a.table.now.sizes a.deeper) (nests_above a.deeper) a.next.bh (option_map g.J.Job.number_of a.next.job) (are_due a.next.flags) a.table.now.sizes a.home.now.seat.known a.runner.now a.polled.now
    (sym c.is_due.ensures ∙ c.if-not-is_due.true) c.requires.between.of_table.sizes c.requires.between.legal

pub returns-clause-ends : goal.returns-clause-ends
returns-clause-ends g c ends =
    let a = c.args in
    let does = g.R.Runner.does in
    let frame = Frame a.table.now.sizes a.deeper in
    let call = c.first_entry-call.result in
    let is = c.first_entry-call.ensures in
    let number = g.J.Job.number_of in
    let old = far a.home.now.seat.known a.runner.now a.polled.now in
    let new = far c.enter.new.home.seat.known c.enter.new.runner c.enter.new.polled in
    GoesFurther-called does frame (nests_above a.deeper) a.next.bh (option_map number a.next.job) (are_due a.next.flags) old new (sym c.is_due.ensures ∙ c.if-not-is_due.false)
    (GoesFurther-renamed does frame a.next.bh call.bh (nests_above a.deeper) call.nests_left (option_map number a.next.job) (option_map number call.job) true call.first old new is.0 (ap (option_map number) is.1) is.2 (is.3 ∙ c.nests_allowed.ensures) (c.enter.ensures.ends ends))
