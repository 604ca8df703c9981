use Rattle.std.proofs.Common.{◌≡◌, ◌-◌, option_map, length, true, false, None, refl, sym, ap, ◌∙◌, subst, arith}
use Rattle.aio_model.specs.Loop.Flags.{are_due, is_lot}
use Rattle.aio_model.specs.Loop.Frame.{Nests, Frame, nests_above}
use Rattle.aio_bh.specs.PollFrames.{far, GoesFurther, CallsBody, FreesLot, FollowsDequeue, BehindNest}
use Rattle.aio_bh.proofs.Parts.{GoesFurther-then, GoesFurther-turn}
use Rattle.aio_bh.proofs.Turning.{between-take, between-finished, finished_same_out, finishes_handle, GoesFurther-ends, GoesFurther-take}
use Rattle.aio_bh.proofs.Lasting.{may_end_behind}
use Rattle.aio_bh.proofs.Returning.{gives_behind, gives_freed-then, gives_nothing, next_frees_none, take_frees_none}
use Rattle.aio_bh.proofs.Steps.{GoesFurther-behind, GoesFurther-frame, GoesFurther-more, GoesFurther-nested, GoesFurther-on, GoesFurther-renamed, nests_below}
use Rattle.aio_bh.proofs.frames.+poll.Goals as goal

pub frame-loop-next-init : goal.frame-loop-next-init
frame-loop-next-init g t c =
    let a = c.args in
    let sizes = a.table.now.sizes in
    let before = a.home.now.seat in
    let after = c.take.new.home.seat in
    record {
      goes = GoesFurther-take sizes (Frame sizes a.deeper) (nests_above a.deeper) g.R.Runner.does before.known after.known a.runner.now a.polled.now a.home.now.number.0 a.home.now.number.1 c.take.ensures.step;
      between = between-take a.table.now a.deeper before after c.take.ensures.seat c.requires.can_take c.take.ensures.step;
      pass = c.requires.pass;
      gives = gives_nothing a.pool.now before.known after.known a.pass.now (take_frees_none before.known after.known c.take.ensures.step);
      can_run = c.requires.can_run;
    }

pub frame-loop-next-preserved : goal.frame-loop-next-preserved
frame-loop-next-preserved g t c =
    let a = c.args in
    let sizes = a.table.now.sizes in
    let v = c.loop-next.invariant in
    let next = c.in-Some.next in
    let job = option_map g.J.Job.number_of next.job in
    let old = c.loop-next.home.seat.known in
    let mid = c.next.new.home.seat.known in
    let new = c.turn.new.home.seat.known in
    let turn = GoesFurther-turn sizes (Frame sizes a.deeper) (nests_above a.deeper) next.bh (are_due next.flags) job g.R.Runner.does old mid new c.loop-next.runner c.turn.new.runner c.loop-next.polled c.next.new.polled c.turn.new.polled v.between.of_table.sizes c.in-Some.ensures.next c.turn.ensures.goes in
    let frees = next_frees_none next.bh (are_due next.flags) job old mid c.loop-next.polled c.next.new.polled c.in-Some.ensures.next in
    record {
      goes = GoesFurther-more sizes a.deeper g.R.Runner.does a.home.now.seat.known old new a.runner.now c.loop-next.runner c.turn.new.runner a.polled.now c.loop-next.polled c.turn.new.polled v.goes turn;
      between = c.turn.ensures.between;
      pass = c.turn.ensures.pass;
      gives = gives_freed-then a.pool.now a.home.now.seat.known old new a.pass.now c.loop-next.pass c.turn.new.pass v.gives (gives_behind a.pool.now old mid new c.loop-next.pass c.turn.new.pass frees c.turn.ensures.gives);
      can_run = c.turn.ensures.can_run;
    }

pub frame-returns-clause-goes : goal.frame-returns-clause-goes
frame-returns-clause-goes g t c =
    let a = c.args in
    let none = rw c.in_default.is at c.next.ensures.next in
    GoesFurther-frame a.table.now.sizes a.deeper g.R.Runner.does a.home.now.seat.known c.loop-next.home.seat.known c.next.new.home.seat.known a.runner.now c.loop-next.runner c.loop-next.runner a.polled.now c.loop-next.polled c.next.new.polled c.loop-next.invariant.goes none refl

pub nest-returns-then-enter-clause-goes : goal.nest-returns-then-enter-clause-goes
nest-returns-then-enter-clause-goes g t c =
    let a = c.args in
    let does = g.R.Runner.does in
    let sizes = a.table.now.sizes in
    let frame = Frame sizes a.deeper in
    let call = c.further_entry-call.result in
    let job = option_map g.J.Job.number_of call.job in
    let is = c.further_entry-call.ensures in
    let back = far c.frame.new.home.seat.known c.frame.new.runner c.frame.new.polled in
    let asked = far c.enter.new.home.seat.known c.enter.new.runner c.enter.new.polled in
    let new = far c.nest.new.home.seat.known c.nest.new.runner c.nest.new.polled in
    let below = nests_below a.deeper a.nests c.requires.nests.0 c.requires.nests.1 in
    let entry = c.enter.ensures.nests c.if-enter.true in
    let left = a.nests - 1 - 1 in
    let later = subst (λ i. GoesFurther (BehindNest frame i left) does asked new) (sym is.0) c.nest.ensures.goes in
    let rest = GoesFurther-on does frame call.bh job call.first call.nests_left left Nests back asked new (omega (arith, is.3, entry.0)) refl entry.1 later in
    GoesFurther-behind sizes a.deeper a.bh (a.nests - 1) does (far a.home.now.seat.known a.runner.now a.polled.now) back new below.0 c.frame.ensures.goes
    (GoesFurther-renamed does frame a.bh call.bh (a.nests - 1) call.nests_left None job false call.first back new is.0 (ap (option_map g.J.Job.number_of) is.1) is.2 is.3 rest)

pub nest-returns-then-enter-clause-gives : goal.nest-returns-then-enter-clause-gives
nest-returns-then-enter-clause-gives g t c =
    let a = c.args in
    let back = c.frame.new.home.seat.known in
    let asked = c.enter.new.home.seat.known in
    let new = c.nest.new.home.seat.known in
    gives_freed-then a.pool.now a.home.now.seat.known back new a.pass.now c.frame.new.pass c.nest.new.pass c.frame.ensures.gives (gives_behind a.pool.now back asked new c.frame.new.pass c.nest.new.pass c.enter.ensures.frees_none c.nest.ensures.gives)

pub nest-returns-else-enter-clause-goes : goal.nest-returns-else-enter-clause-goes
nest-returns-else-enter-clause-goes g t c =
    let a = c.args in
    let does = g.R.Runner.does in
    let sizes = a.table.now.sizes in
    let call = c.further_entry-call.result in
    let is = c.further_entry-call.ensures in
    let back = far c.frame.new.home.seat.known c.frame.new.runner c.frame.new.polled in
    let new = far c.enter.new.home.seat.known c.enter.new.runner c.enter.new.polled in
    let below = nests_below a.deeper a.nests c.requires.nests.0 c.requires.nests.1 in
    GoesFurther-behind sizes a.deeper a.bh (a.nests - 1) does (far a.home.now.seat.known a.runner.now a.polled.now) back new below.0 c.frame.ensures.goes
    (GoesFurther-renamed does (Frame sizes a.deeper) a.bh call.bh (a.nests - 1) call.nests_left None (option_map g.J.Job.number_of call.job) false call.first back new is.0 (ap (option_map g.J.Job.number_of) is.1) is.2 is.3 (c.enter.ensures.ends c.if-enter.false))

pub nest-returns-else-enter-clause-gives : goal.nest-returns-else-enter-clause-gives
nest-returns-else-enter-clause-gives g t c =
    let a = c.args in
    let back = c.frame.new.home.seat.known in
    let new = c.enter.new.home.seat.known in
    gives_freed-then a.pool.now a.home.now.seat.known back new a.pass.now c.frame.new.pass c.frame.new.pass c.frame.ensures.gives (gives_nothing a.pool.now back new c.frame.new.pass c.enter.ensures.frees_none)

pub turn-finish-requires-clause-may_end : goal.turn-finish-requires-clause-may_end
turn-finish-requires-clause-may_end g t c =
    let a = c.args in
    let does = g.R.Runner.does in
    let sizes = a.table.now.sizes in
    let job = option_map g.J.Job.number_of a.next.job in
    let due = are_due a.next.flags in
    let old = far a.home.now.seat.known a.runner.now a.polled.now in
    let asked = far c.call.new.home.seat.known c.call.new.runner c.call.new.polled in
    let new = far c.nest.new.home.seat.known c.nest.new.runner c.nest.new.polled in
    let entry = c.call.ensures.nests c.if-call.true in
    let called = GoesFurther-nested does (Frame sizes a.deeper) (nests_above a.deeper) c.nests_allowed.result a.next.bh job due old asked new c.nests_allowed.ensures entry.1 entry.0 entry.2 c.nest.ensures.goes in
    may_end_behind sizes a.deeper (nests_above a.deeper) a.next.bh job due does old new called c.nest.ensures.between.legal c.requires.may_end

pub turn-end_lot-requires-clause-may_end : goal.turn-end_lot-requires-clause-may_end
turn-end_lot-requires-clause-may_end g t c =
    let a = c.args in
    let old = far a.home.now.seat.known a.runner.now a.polled.now in
    let new = far c.call.new.home.seat.known c.call.new.runner c.call.new.polled in
    may_end_behind a.table.now.sizes a.deeper (nests_above a.deeper) a.next.bh (option_map g.J.Job.number_of a.next.job) (are_due a.next.flags) g.R.Runner.does old new (c.call.ensures.ends c.if-call.false) c.call.ensures.between.legal c.requires.may_end

pub turn-returns-then-call-clause-between : goal.turn-returns-then-call-clause-between
turn-returns-then-call-clause-between g t c =
    let table = c.args.table.now in
    let home = c.nest.new.home in
    between-finished table c.args.deeper (is_lot table.sizes c.args.next.bh) c.args.next.bh home.seat c.finish.new.home.seat c.finish.ensures.seat c.nest.ensures.between home.number.0 home.number.1 c.finish.ensures.ends

pub turn-returns-then-call-clause-fewer : goal.turn-returns-then-call-clause-fewer
turn-returns-then-call-clause-fewer g t c =
    let home = c.nest.new.home in
    omega (arith, c.nest.ensures.fewer, ap length c.call.ensures.same_out, ap length (finished_same_out (is_lot c.args.table.now.sizes c.args.next.bh) c.args.next.bh home.seat.known c.finish.new.home.seat.known home.number.0 home.number.1 c.finish.ensures.ends))

pub turn-returns-then-call-clause-goes : goal.turn-returns-then-call-clause-goes
turn-returns-then-call-clause-goes g t c =
    let a = c.args in
    let does = g.R.Runner.does in
    let sizes = a.table.now.sizes in
    let frame = Frame sizes a.deeper in
    let nests = nests_above a.deeper in
    let bh = a.next.bh in
    let job = option_map g.J.Job.number_of a.next.job in
    let due = are_due a.next.flags in
    let home = c.nest.new.home in
    let after = c.finish.new.home.seat.known in
    let old = far a.home.now.seat.known a.runner.now a.polled.now in
    let asked = far c.call.new.home.seat.known c.call.new.runner c.call.new.polled in
    let new = far home.seat.known c.nest.new.runner c.nest.new.polled in
    let entry = c.call.ensures.nests c.if-call.true in
    let between = c.nest.ensures.between in
    let called = GoesFurther-nested does frame nests c.nests_allowed.result bh job due old asked new c.nests_allowed.ensures entry.1 entry.0 entry.2 c.nest.ensures.goes in
    let ends = GoesFurther-ends sizes bh does home.seat.known after c.nest.new.runner c.nest.new.polled home.number.0 home.number.1 between.of_table.sizes between.legal c.finish.ensures.ends in
    GoesFurther-then (CallsBody frame nests bh job due) (FreesLot sizes bh) (FollowsDequeue sizes frame nests bh job due) does old new (far after c.nest.new.runner c.nest.new.polled) (λ x y z one two. (y, one, two)) called ends

pub turn-returns-then-call-clause-gives : goal.turn-returns-then-call-clause-gives
turn-returns-then-call-clause-gives g t c =
    let a = c.args in
    let asked = c.call.new.home.seat.known in
    let nested = c.nest.new.home.seat.known in
    let new = c.finish.new.home.seat.known in
    gives_behind a.pool.now a.home.now.seat.known asked new a.pass.now c.finish.new.pass c.call.ensures.frees_none (gives_freed-then a.pool.now asked nested new a.pass.now c.nest.new.pass c.finish.new.pass c.nest.ensures.gives c.finish.ensures.gives)

pub turn-returns-then-bh-handles-clause-between : goal.turn-returns-then-bh-handles-clause-between
turn-returns-then-bh-handles-clause-between g t c =
    let table = c.args.table.now in
    let home = c.call.new.home in
    between-finished table c.args.deeper (is_lot table.sizes c.args.next.bh) c.args.next.bh home.seat c.end_lot.new.home.seat c.end_lot.ensures.seat c.call.ensures.between home.number.0 home.number.1 c.end_lot.ensures.ends

pub turn-returns-then-bh-handles-clause-fewer : goal.turn-returns-then-bh-handles-clause-fewer
turn-returns-then-bh-handles-clause-fewer g t c =
    let home = c.call.new.home in
    omega (arith, ap length c.call.ensures.same_out, ap length (finished_same_out (is_lot c.args.table.now.sizes c.args.next.bh) c.args.next.bh home.seat.known c.end_lot.new.home.seat.known home.number.0 home.number.1 c.end_lot.ensures.ends))

pub turn-returns-then-bh-handles-clause-goes : goal.turn-returns-then-bh-handles-clause-goes
turn-returns-then-bh-handles-clause-goes g t c =
    let a = c.args in
    let does = g.R.Runner.does in
    let sizes = a.table.now.sizes in
    let frame = Frame sizes a.deeper in
    let nests = nests_above a.deeper in
    let bh = a.next.bh in
    let job = option_map g.J.Job.number_of a.next.job in
    let due = are_due a.next.flags in
    let home = c.call.new.home in
    let runner = c.call.new.runner in
    let polled = c.call.new.polled in
    let after = c.end_lot.new.home.seat.known in
    let between = c.call.ensures.between in
    let ends = GoesFurther-ends sizes bh does home.seat.known after runner polled home.number.0 home.number.1 between.of_table.sizes between.legal c.end_lot.ensures.ends in
    GoesFurther-then (CallsBody frame nests bh job due) (FreesLot sizes bh) (FollowsDequeue sizes frame nests bh job due) does (far a.home.now.seat.known a.runner.now a.polled.now) (far home.seat.known runner polled) (far after runner polled) (λ x y z one two. (y, one, two)) (c.call.ensures.ends c.if-call.false) ends

pub turn-returns-then-bh-handles-clause-gives : goal.turn-returns-then-bh-handles-clause-gives
turn-returns-then-bh-handles-clause-gives g t c =
    let a = c.args in
    gives_behind a.pool.now a.home.now.seat.known c.call.new.home.seat.known c.end_lot.new.home.seat.known a.pass.now c.end_lot.new.pass c.call.ensures.frees_none c.end_lot.ensures.gives

pub turn-returns-else-bh-handles-clause-goes : goal.turn-returns-else-bh-handles-clause-goes
turn-returns-else-bh-handles-clause-goes g t c =
    let a = c.args in
    let does = g.R.Runner.does in
    let sizes = a.table.now.sizes in
    let frame = Frame sizes a.deeper in
    let nests = nests_above a.deeper in
    let bh = a.next.bh in
    let job = option_map g.J.Job.number_of a.next.job in
    let due = are_due a.next.flags in
    let home = c.call.new.home in
    let known = home.seat.known in
    let runner = c.call.new.runner in
    let polled = c.call.new.polled in
    let between = c.call.ensures.between in
    let ends = GoesFurther-ends sizes bh does known known runner polled home.number.0 home.number.1 between.of_table.sizes between.legal (finishes_handle sizes bh known (omega (arith, c.if-bh-handles.false, c.handles.ensures))) in
    GoesFurther-then (CallsBody frame nests bh job due) (FreesLot sizes bh) (FollowsDequeue sizes frame nests bh job due) does (far a.home.now.seat.known a.runner.now a.polled.now) (far known runner polled) (far known runner polled) (λ x y z one two. (y, one, two)) (c.call.ensures.ends c.if-call.false) ends
