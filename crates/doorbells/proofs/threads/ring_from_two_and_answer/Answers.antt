use Rattle.doorbells.proofs.Joined.{match_more, rings_and_answers}
use Rattle.doorbells.proofs.threads.ring_from_two_and_answer.Goals as goal

pub returns-clause-rung : goal.returns-clause-rung
returns-clause-rung g c =
    let a = c.args in
    match_more c.ring_from_two-rung.result.1 _ _ _
    (λ rung rings. rings_and_answers a.table.now a.low a.high rung.low rung.high a.devices.now.to a.seat c.ring_from_two-rung.result.0 a.home.now.seat.known.seen c.answer.new.home.seat.known.seen _ _ c.requires.low c.requires.high rings c.answer.ensures.answers)
    c.ring_from_two-rung.ensures
