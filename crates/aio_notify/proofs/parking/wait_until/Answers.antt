use Rattle.std.proofs.Common.{◌≡◌, ◌≤◌, ◌+◌, inr, arith}
use Rattle.aio_notify.proofs.Vain.{waits_again, passes_time}
use Rattle.aio_notify.proofs.parking.wait_until.Goals as goal

pub returns-then-passed-left-clause-waits : goal.returns-then-passed-left-clause-waits
returns-then-passed-left-clause-waits g c =
    let start = c.now-start.result in
    let at = c.now.result in
    let from = g.C.Clock.time c.args.clock.now in
    let to = g.C.Clock.time c.now.new.self in
    let so_far = c.loop.invariant in
    let before : from ≤ start = so_far.3 in
    let here : start ≤ g.C.Clock.time c.loop.clock = so_far.4 in
    let later : g.C.Clock.time c.loop.clock ≤ at = c.now.ensures.later in
    let shown : to ≡ at = c.now.ensures.shown in
    let long = c.if-passed-left.true in
    let passed : from + c.args.left ≤ to = omega arith in
    inr (passes_time c.args.table.now c.args.home.now.seat c.loop.home.seat c.load_notifier.new.home.seat c.load_notifier.result c.args.left from to so_far.2 c.load_notifier.ensures.seat c.load_notifier.ensures.step c.if-load_notifier.false passed)

pub loop-preserved : goal.loop-preserved
loop-preserved g c =
    let so_far = c.loop.invariant in
    let here : c.now-start.result ≤ g.C.Clock.time c.loop.clock = so_far.4 in
    let later : g.C.Clock.time c.loop.clock ≤ c.now.result = c.now.ensures.later in
    let shown : g.C.Clock.time c.now.new.self ≡ c.now.result = c.now.ensures.shown in
    let goes_on : g.C.Clock.time c.now.new.self ≤ g.C.Clock.time c.pause.new.self = c.pause.ensures in (
      tt,
      tt,
      waits_again c.args.table.now c.args.home.now.seat c.loop.home.seat c.load_notifier.new.home.seat c.load_notifier.result so_far.2 c.load_notifier.ensures.seat c.load_notifier.ensures.step c.if-load_notifier.false,
      so_far.3,
      omega arith,
    )
