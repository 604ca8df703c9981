use Rattle.std.proofs.Common.{◌∙◌, ap}
use Rattle.aio_core.specs.Known.{Known}
use Rattle.aio_core.specs.Standing.{asks_of_kind}
use Rattle.aio_bh.specs.Enqueuing.{SchedulesAtOnce}
use Rattle.aio_bh.proofs.Standing.{schedules_at_once_stands, schedules_later_stands}
use Rattle.aio_bh.proofs.Scheduled.{pushed_at_once, pushed_later, nothing_to_push_at_once}
use Rattle.aio_bh.proofs.enqueue.try_schedule_as.Goals as goal

pub returns-in_default-clause-put : goal.returns-in_default-clause-put
returns-in_default-clause-put g c =
    let v = c.args.seat.now.known in
    let a = c.announce-owed.new.seat.known in
    let w = c.notify.new.seat.known in
    let flags = c.announce-owed.result.0 in
    let pending = rw c.in_default.is at c.announce-owed.ensures.owed in
    let run : SchedulesAtOnce c.args.bh (asks_of_kind c.args.kind) flags v w = record { inserted = a; inserts = nothing_to_push_at_once c.args.bh (asks_of_kind c.args.kind) flags v a c.announce-owed.ensures.step pending; notifies = c.notify.ensures.steps } in
    (run, schedules_at_once_stands c.args.bh (asks_of_kind c.args.kind) flags v w run, ap (λ (k : Known). k.phase) c.notify.ensures.same)

pub returns-in-Ok-clause-put : goal.returns-in-Ok-clause-put
returns-in-Ok-clause-put g c =
    let v = c.args.seat.now.known in
    let a = c.announce-owed.new.seat.known in
    let w = c.push_and_notify.new.seat.known in
    let flags = c.announce-owed.result.0 in
    let owed = rw c.in-Some.is at c.announce-owed.ensures.owed in
    let push = c.in-Ok.ensures.step.0 in
    let run : SchedulesAtOnce c.args.bh (asks_of_kind c.args.kind) flags v w = record { inserted = push.pushed; inserts = pushed_at_once c.args.bh (asks_of_kind c.args.kind) flags v a c.announce-owed.ensures.step c.in-Some.owed push.pushed owed push.pushes; notifies = push.notifies } in
    (run, schedules_at_once_stands c.args.bh (asks_of_kind c.args.kind) flags v w run, c.in-Ok.ensures.step.1)

pub returns-in-Err-clause-put : goal.returns-in-Err-clause-put
returns-in-Err-clause-put g c =
    let v = c.args.seat.now.known in
    let a = c.announce-owed.new.seat.known in
    let w = c.push_and_notify.new.seat.known in
    let flags = c.announce-owed.result.0 in
    let owed = rw c.in-Some.is at c.announce-owed.ensures.owed in
    let run = pushed_later c.args.bh (asks_of_kind c.args.kind) flags v a c.announce-owed.ensures.step c.in-Some.owed w owed c.in-Err.ensures.step.1 in
    let same = c.in-Err.ensures.step.0 ∙ owed.1 in
    (run, schedules_later_stands c.args.bh (asks_of_kind c.args.kind) flags v w run, same, rw (← same) c.in-Err.ensures.step.2)
