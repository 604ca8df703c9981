use Rattle.std.proofs.Common.{sym, subst}
use Rattle.aio_notify.specs.Settling.{FindsPending, FindsSetEvent}
use Rattle.aio_notify.proofs.Wholes.{finds_pending, finds_event}
use Rattle.aio_notify.proofs.settling.settle.Goals as goal

pub returns-in-Some : goal.returns-in-Some
returns-in-Some g c =
    let w = c.whole_of-whole.result.0.seat.known in
    let left = c.given_back.result in
    let back = c.given_back.ensures in (
      back.table,
      back.home,
      back.seat,
      subst (λ b. FindsPending c.in-Some.bh b c.args.seat.known c.args.home.seat.known left.seat.known left.home.seat.known) (sym back.notifier) (finds_pending c.whole_of-whole.result.1 c.args.table.sizes c.args.seat.known c.args.home.seat.known w c.requires.seat.of.sizes c.whole_of-whole.ensures.whole c.whole_of-whole.ensures.at_home c.whole_of-whole.ensures.rings c.requires.committed c.in-Some.bh c.first_pending.new.whole.seat.known left.seat.known left.home.seat.known c.in-Some.ensures.looks c.in-Some.ensures.least c.in-Some.ensures.same back.front back.back),
    )

pub returns-in-Some-first_event : goal.returns-in-Some-first_event
returns-in-Some-first_event g c =
    let w = c.whole_of-whole.result.0.seat.known in
    let left = c.given_back-in-Some-first_event.result in
    let back = c.given_back-in-Some-first_event.ensures in
    let looked = c.first_pending.new.whole.seat.known in (
      back.table,
      back.home,
      back.seat,
      subst (λ b. FindsSetEvent c.in-Some-first_event.event b c.args.seat.known c.args.home.seat.known left.seat.known left.home.seat.known) (sym back.notifier) (finds_event c.whole_of-whole.result.1 c.args.table.sizes c.args.seat.known c.args.home.seat.known w c.requires.seat.of.sizes c.whole_of-whole.ensures.whole c.whole_of-whole.ensures.at_home c.whole_of-whole.ensures.rings c.requires.committed c.in-Some-first_event.event looked c.first_event.new.whole.seat.known left.seat.known left.home.seat.known c.in_default.ensures.looks c.in_default.ensures.least c.in_default.ensures.same c.in-Some-first_event.ensures.looks c.in-Some-first_event.ensures.least c.in-Some-first_event.ensures.same back.front back.back),
    )
