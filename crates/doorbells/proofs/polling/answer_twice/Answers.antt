use Rattle.std.proofs.Common.{subst}
use Rattle.doorbells.specs.Answering.{AnswersDoorbells}
use Rattle.doorbells.proofs.Answered.{answered_twice}
use Rattle.doorbells.proofs.polling.answer_twice.Goals as goal

pub returns-clause-answers : goal.returns-clause-answers
returns-clause-answers g c =
    let sizes = c.args.table.now.sizes in
    let a = c.args.devices.now in
    let m = c.answer.new.devices in
    let b = c.answer-2.new.devices in
    let second = subst (λ to. AnswersDoorbells sizes to c.answer.new.home.seat.known.seen c.answer-2.new.home.seat.known.seen (record { answered = m.answered.items; passed_on = m.passed_on }) (record { answered = b.answered.items; passed_on = b.passed_on })) c.answer.ensures.devices.1 c.answer-2.ensures.answers in
    answered_twice sizes a.to c.args.home.now.seat.known.seen c.answer.new.home.seat.known.seen c.answer-2.new.home.seat.known.seen _ _ _ c.requires.devices.to_handle c.answer.ensures.answers second
