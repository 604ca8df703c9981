use Rattle.std.proofs.Common.{◌≡◌, option_map, sym, subst}
use Rattle.aio_model.specs.Loop.Frame.{EntersRunner, Frame, lent_of}
use Rattle.aio_bh.specs.Running.{answer_by}
use Rattle.aio_bh.specs.PollFrames.{far, GoesFurther}
use Rattle.aio_bh.proofs.Parts.{GoesFurther-enter}
use Rattle.aio_bh.proofs.Returning.{callback_frees_none}
use Rattle.aio_bh.proofs.Steps.{GoesFurther-last}
use Rattle.aio_bh.proofs.Turning.{back_same_out, between-back}
use Rattle.aio_bh.proofs.frames.enter.Goals as goal

pub returns-clause-between : goal.returns-clause-between
returns-clause-between g c =
    let once = c.lend-turn.ensures.runs in
    between-back c.args.table.now c.args.deeper once.made c.args.home.now.seat c.lend-turn.new.seat c.lend-turn.ensures.seat c.requires.between c.args.home.now.number.0 once.back

pub returns-clause-same_out : goal.returns-clause-same_out
returns-clause-same_out g c =
    let once = c.lend-turn.ensures.runs in
    back_same_out once.made c.args.home.now.seat.known c.lend-turn.new.seat.known c.args.home.now.number.0 once.back

pub returns-clause-frees_none : goal.returns-clause-frees_none
returns-clause-frees_none g c =
    let once = c.lend-turn.ensures.runs in
    callback_frees_none once.made c.args.home.now.seat.known c.lend-turn.new.seat.known once.back

pub returns-clause-nests : goal.returns-clause-nests
returns-clause-nests g c nests =
    let a = c.args in
    let does = g.R.Runner.does in
    let yes = c.gets_nest.ensures.yes nests in
    let answer = answer_by c.lend-turn.result in
    let lent = lent_of a.call.bh (option_map g.J.Job.number_of a.call.job) a.call.first a.call.nests_left in
    let old = far a.home.now.seat.known a.runner.now a.polled.now in
    let entry = GoesFurther-enter does a.call.bh (option_map g.J.Job.number_of a.call.job) a.call.first a.call.nests_left answer a.home.now.seat.known c.lend-turn.new.seat.known a.runner.now c.lend-turn.new.runner a.polled.now a.home.now.number.0 c.lend-turn.ensures.runs in
    let entered = subst (λ p. GoesFurther (EntersRunner lent answer) does old (far c.lend-turn.new.seat.known c.lend-turn.new.runner p)) (sym c.note.ensures) entry in
    (yes.1, subst (λ x. GoesFurther (EntersRunner lent x) does old (far c.lend-turn.new.seat.known c.lend-turn.new.runner c.note.new.self)) yes.0 entered)

pub returns-clause-ends : goal.returns-clause-ends
returns-clause-ends g c ends =
    let a = c.args in
    let does = g.R.Runner.does in
    let answer = answer_by c.lend-turn.result in
    let job = option_map g.J.Job.number_of a.call.job in
    let old = far a.home.now.seat.known a.runner.now a.polled.now in
    let entry = GoesFurther-enter does a.call.bh job a.call.first a.call.nests_left answer a.home.now.seat.known c.lend-turn.new.seat.known a.runner.now c.lend-turn.new.runner a.polled.now a.home.now.number.0 c.lend-turn.ensures.runs in
    let entered = subst (λ p. GoesFurther (EntersRunner (lent_of a.call.bh job a.call.first a.call.nests_left) answer) does old (far c.lend-turn.new.seat.known c.lend-turn.new.runner p)) (sym c.note.ensures) entry in
    GoesFurther-last does (Frame a.table.now.sizes a.deeper) a.call.bh job a.call.first a.call.nests_left answer old (far c.lend-turn.new.seat.known c.lend-turn.new.runner c.note.new.self) (c.gets_nest.ensures.no ends) entered
