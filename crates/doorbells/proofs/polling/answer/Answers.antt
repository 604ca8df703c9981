use Rattle.std.proofs.Common.{sym, subst}
use Rattle.doorbells.specs.Responding.{AreFit}
use Rattle.doorbells.specs.Answering.{AnswersDoorbells}
use Rattle.doorbells.proofs.Answered.{answered, to_same}
use Rattle.doorbells.proofs.polling.answer.Goals as goal

pub returns-clause-devices : goal.returns-clause-devices
returns-clause-devices g c =
    let polls = c.poll.ensures.polls in
    (c.poll.ensures.can_run, to_same _ (λ d. d.answered.items) (λ d. d.passed_on) (λ d. d.from) (λ d. d.to) (λ x y e h. h) polls.end.log c.args.devices.now c.poll.new.runner polls.runs)

pub returns-clause-answers : goal.returns-clause-answers
returns-clause-answers g c =
    let sizes = c.requires.home.ready.of.sizes in
    let a = c.args.home.now.seat.known in
    let b = c.poll.new.home.seat.known in
    let before = c.args.devices.now in
    let after = c.poll.new.runner in
    let fit = subst (λ z. AreFit z.handles before.answered.items before.to) (sym sizes) c.requires.devices in
    subst (λ z. AnswersDoorbells z before.to a.seen b.seen (record { answered = before.answered.items; passed_on = before.passed_on }) (record { answered = after.answered.items; passed_on = after.passed_on })) sizes
    (answered _ (λ d. d.answered.items) (λ d. d.passed_on) (λ d. d.from) (λ d. d.to) (λ x y e h. h) c.poll.result before after a b fit c.poll.ensures.polls)
