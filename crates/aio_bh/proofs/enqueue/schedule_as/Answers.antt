use Rattle.std.proofs.Common.{subst}
use Rattle.aio_core.specs.Standing.{asks_of_kind}
use Rattle.aio_bh.specs.Enqueuing.{PushesInTheEnd}
use Rattle.aio_bh.proofs.Standing.{schedules_stands}
use Rattle.aio_bh.proofs.Scheduled.{at_once, later}
use Rattle.aio_bh.proofs.enqueue.schedule_as.Goals as goal

pub returns-in-Done-clause-steps : goal.returns-in-Done-clause-steps
returns-in-Done-clause-steps g c =
    at_once c.args.bh (asks_of_kind c.args.kind) c.in-Done.flags c.args.seat.now.known c.try_schedule_as.new.seat.known c.in-Done.ensures.put.0

pub returns-in-Owed-clause-steps : goal.returns-in-Owed-clause-steps
returns-in-Owed-clause-steps g c =
    let a = c.try_schedule_as.new.seat.known in
    let w = c.push_in_the_end.new.seat.known in
    let push = subst (λ i. PushesInTheEnd i a w) c.in-Owed.ensures.put.2 c.push_in_the_end.ensures.steps in
    later c.args.bh (asks_of_kind c.args.kind) c.in-Owed.flags c.args.seat.now.known a w c.in-Owed.ensures.put.0 push

pub returns-in-Owed-clause-stands : goal.returns-in-Owed-clause-stands
returns-in-Owed-clause-stands g c =
    let a = c.try_schedule_as.new.seat.known in
    let w = c.push_in_the_end.new.seat.known in
    let push = subst (λ i. PushesInTheEnd i a w) c.in-Owed.ensures.put.2 c.push_in_the_end.ensures.steps in
    schedules_stands c.args.bh (asks_of_kind c.args.kind) c.in-Owed.flags c.args.seat.now.known w
    (later c.args.bh (asks_of_kind c.args.kind) c.in-Owed.flags c.args.seat.now.known a w c.in-Owed.ensures.put.0 push)
