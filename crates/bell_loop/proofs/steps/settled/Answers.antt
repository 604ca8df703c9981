use Rattle.bell_loop.proofs.Ended.{quiet_end, pending_absurd, event_absurd}
use Rattle.bell_loop.proofs.steps.settled.Goals as goal

pub unreachable-requires : goal.unreachable-requires
unreachable-requires c =
    let left = c.in-Pending.field-1 in
    pending_absurd c.args.table.sizes c.in-Pending.field-0 left.notifier c.args.others.known c.args.home.seat.known left.seat.known left.home.seat.known c.requires.new c.requires.sleeps.first c.requires.sleeps.count c.requires.none_pending c.in-Pending.ensures.3

pub unreachable-requires-in-Event : goal.unreachable-requires-in-Event
unreachable-requires-in-Event c =
    let left = c.in-Event.field-1 in
    event_absurd c.args.table.sizes c.in-Event.field-0 left.notifier c.args.others.known c.args.home.seat.known left.seat.known left.home.seat.known c.requires.new c.requires.sleeps.first c.requires.sleeps.count c.requires.none_set c.in-Event.ensures.3

pub returns-clause-alone : goal.returns-clause-alone
returns-clause-alone c =
    (quiet_end _ _ _ _ c.requires.new c.requires.sleeps.first c.requires.sleeps.count c.in-Quiet.ensures.1).1
