use Rattle.std.proofs.Common.{◌∙◌, ◌++◌, [], false, ap, inl, refl, true}
use Rattle.img_streams.specs.Deeds.{listed, wants_wakes}
use Rattle.img_streams.specs.Streams.{source}
use Rattle.img_streams.proofs.StreamsGoOn.{due_now, small_now, can_now}
use Rattle.img_streams.proofs.Entering.{line_of, asks_entering, waits_resumes, hand_asks, entered_is, entered_resumes}
use Rattle.img_streams.proofs.states.Stream+ImageRule+D.enter.Goals as goal

pub enter-requires-clause-due : goal.enter-requires-clause-due
enter-requires-clause-due g c =
    let old = c.args.self.now in
    let of = source c.args.env.now.lock.now c.args.env.now.script.now in
    let request = c.request_at-request.result.now in
    let line = line_of c.args.env.now.script.now.lines c.as_slice.result.now old.id old.line request c.as_slice.ensures
    (asks_entering g.D.Device.bytes old of c.requires.of c.in-Entering.passed c.in-Entering.is) c.request_at-request.ensures in
    due_now g.D.Device.bytes old of c.requires.of request line

pub enter-requires-clause-small : goal.enter-requires-clause-small
enter-requires-clause-small g c =
    let old = c.args.self.now in
    let of = source c.args.env.now.lock.now c.args.env.now.script.now in
    let request = c.request_at-request.result.now in
    let line = line_of c.args.env.now.script.now.lines c.as_slice.result.now old.id old.line request c.as_slice.ensures
    (asks_entering g.D.Device.bytes old of c.requires.of c.in-Entering.passed c.in-Entering.is) c.request_at-request.ensures in
    small_now g.D.Device.bytes old of c.requires.of request line

pub go_on_entered-itself-requires : goal.go_on_entered-itself-requires
go_on_entered-itself-requires g c =
    let old = c.args.self.now in
    let of = source c.args.env.now.lock.now c.args.env.now.script.now in
    let request = c.request_at-request.result.now in
    let line = line_of c.args.env.now.script.now.lines c.as_slice.result.now old.id old.line request c.as_slice.ensures
    (asks_entering g.D.Device.bytes old of c.requires.of c.in-Entering.passed c.in-Entering.is) c.request_at-request.ensures in
    record { can = can_now g.D.Device.bytes old of c.requires.of request line c.enter.new.pass false }

pub returns-in-Waits-clause-resumes : goal.returns-in-Waits-clause-resumes
returns-in-Waits-clause-resumes g c =
    let old = c.args.self.now in
    let of = source c.args.env.now.lock.now c.args.env.now.script.now in
    let request = c.request_at-request.result.now in
    let line = line_of c.args.env.now.script.now.lines c.as_slice.result.now old.id old.line request c.as_slice.ensures
    (asks_entering g.D.Device.bytes old of c.requires.of c.in-Entering.passed c.in-Entering.is) c.request_at-request.ensures in
    waits_resumes g.D.Device.bytes old of (record old { pass = c.enter.new.pass; queued = true }) c.in-Waits.named c.ask.new.cx
    (inl (hand_asks g.D.Device.bytes old of c.requires.of (request, line)))
    c.in-Waits.ensures.turn c.ask.ensures refl refl refl

pub returns-in-Did-clause-of : goal.returns-in-Did-clause-of
returns-in-Did-clause-of g c =
    let old = c.args.self.now in
    let of = source c.args.env.now.lock.now c.args.env.now.script.now in
    let request = c.request_at-request.result.now in
    let line = line_of c.args.env.now.script.now.lines c.as_slice.result.now old.id old.line request c.as_slice.ensures
    (asks_entering g.D.Device.bytes old of c.requires.of c.in-Entering.passed c.in-Entering.is) c.request_at-request.ensures in
    entered_is g.D.Device.bytes old of c.requires.of c.in-Entering.passed c.in-Entering.is request line c.go_on_entered-itself.new.self c.enter.new.pass
    c.in-Did.answer c.in-Did.ensures.turn.of c.in-Did.ensures.entered c.go_on_entered-itself.ensures.moves

pub returns-in-Did-clause-resumes : goal.returns-in-Did-clause-resumes
returns-in-Did-clause-resumes g c =
    let old = c.args.self.now in
    let of = source c.args.env.now.lock.now c.args.env.now.script.now in
    let request = c.request_at-request.result.now in
    let line = line_of c.args.env.now.script.now.lines c.as_slice.result.now old.id old.line request c.as_slice.ensures
    (asks_entering g.D.Device.bytes old of c.requires.of c.in-Entering.passed c.in-Entering.is) c.request_at-request.ensures in
    entered_resumes g.D.Device.bytes old of c.requires.of c.in-Entering.passed c.in-Entering.is request line c.go_on_entered-itself.new.self c.enter.new.pass
    c.in-Did.answer c.in-Did.named c.ask-in-Did.new.cx c.in-Did.ensures.turn c.go_on_entered-itself.ensures.moves
    (c.ask-in-Did.ensures ∙ ap (λ (who : _). wants_wakes (listed c.in-Did.named ++ [] ++ listed who) false) c.go_on_entered-itself.ensures.itself)
