use Rattle.std.proofs.Common.{◌≡◌, ◌∙◌, ◌++◌, length, true, false, ap, inl, refl, sym, subst, arith}
use Rattle.std.specs.Vec.{with_items}
use Rattle.std.proofs.lemmas.List.{with_items_is}
use Rattle.img_requests.specs.Pieces.{HasRoom}
use Rattle.img_streams.specs.Deeds.{listed, wants_wakes, woken_by, TookUp}
use Rattle.img_streams.specs.Own.{own_note}
use Rattle.img_streams.specs.Streams.{source}
use Rattle.img_streams.proofs.Entering.{line_of, waits_resumes, hand_asks}
use Rattle.img_streams.proofs.StreamsGoOn.{room_now}
use Rattle.img_streams.proofs.Serving.{calls_at}
use Rattle.img_streams.proofs.TakingUp.{asks_waiting, waiting_now, taken_at, taken_is, taken_resumes}
use Rattle.img_streams.proofs.states.Stream+ImageRule+D.take_up.Goals as goal

pub take_up-requires-clause-waits : goal.take_up-requires-clause-waits
take_up-requires-clause-waits g c =
    let old = c.args.self.now in
    let of = source c.args.env.now.lock.now c.args.env.now.script.now in
    let request = c.request_at-request.result.now in
    let line = line_of c.args.env.now.script.now.lines c.as_slice.result.now old.id old.line request c.as_slice.ensures
    (asks_waiting g.D.Device.bytes old of c.requires.of c.requires.at) c.request_at-request.ensures in
    waiting_now g.D.Device.bytes old of c.requires.of c.requires.at request line

pub take_up-requires-clause-room : goal.take_up-requires-clause-room
take_up-requires-clause-room g c =
    let old = c.args.self.now in
    let of = source c.args.env.now.lock.now c.args.env.now.script.now in
    let request = c.request_at-request.result.now in
    let line = line_of c.args.env.now.script.now.lines c.as_slice.result.now old.id old.line request c.as_slice.ensures
    (asks_waiting g.D.Device.bytes old of c.requires.of c.requires.at) c.request_at-request.ensures in
    subst (λ l. HasRoom request l) (sym c.as_mut_slice.ensures.value) (room_now g.D.Device.bytes old of c.requires.of request line)

pub returns-in-Waits-clause-resumes : goal.returns-in-Waits-clause-resumes
returns-in-Waits-clause-resumes g c =
    let old = c.args.self.now in
    let of = source c.args.env.now.lock.now c.args.env.now.script.now in
    waits_resumes g.D.Device.bytes old of (record old { pass = c.take_up.new.pass; queued = true; buffer = with_items old.buffer c.take_up.new.buffer }) c.in-Waits.named c.ask.new.cx
    (inl (hand_asks g.D.Device.bytes old of c.requires.of (asks_waiting g.D.Device.bytes old of c.requires.of c.requires.at)))
    c.in-Waits.ensures.turn c.ask.ensures refl refl refl

pub returns-in-Did-clause-of : goal.returns-in-Did-clause-of
returns-in-Did-clause-of g c =
    let old = c.args.self.now in
    let of = source c.args.env.now.lock.now c.args.env.now.script.now in
    let request = c.request_at-request.result.now in
    let line = line_of c.args.env.now.script.now.lines c.as_slice.result.now old.id old.line request c.as_slice.ensures
    (asks_waiting g.D.Device.bytes old of c.requires.of c.requires.at) c.request_at-request.ensures in
    let fits : length c.take_up.new.buffer ≡ old.buffer.len = omega (arith, c.take_up.auto.buffer, ap (λ l. length l) c.as_mut_slice.ensures.value, old.buffer.ok.0) in
    let is : (with_items old.buffer c.take_up.new.buffer).items ≡ c.take_up.new.buffer = with_items_is old.buffer c.take_up.new.buffer fits in
    taken_is g.D.Device.bytes old of c.requires.of c.requires.at request line c.go_on_taken_up-woken.new.self (record old { buffer = with_items old.buffer c.take_up.new.buffer }) c.take_up.new.pass
    c.in-Did.answer c.in-Did.ensures.turn.of
    (taken_at g.D.Device.bytes old.co.co request c.in-Did.answer (own_note g.D.Device.bytes c.args.env.now.lock.now old.pass) (own_note g.D.Device.bytes c.args.env.now.lock.now c.take_up.new.pass)
    c.as_mut_slice.result.now old.buffer.items c.take_up.new.buffer (with_items old.buffer c.take_up.new.buffer).items c.as_mut_slice.ensures.value is c.in-Did.ensures.taken)
    c.go_on_taken_up-woken.ensures.moves

pub returns-in-Did-clause-resumes : goal.returns-in-Did-clause-resumes
returns-in-Did-clause-resumes g c =
    let old = c.args.self.now in
    let of = source c.args.env.now.lock.now c.args.env.now.script.now in
    let request = c.request_at-request.result.now in
    let line = line_of c.args.env.now.script.now.lines c.as_slice.result.now old.id old.line request c.as_slice.ensures
    (asks_waiting g.D.Device.bytes old of c.requires.of c.requires.at) c.request_at-request.ensures in
    let fits : length c.take_up.new.buffer ≡ old.buffer.len = omega (arith, c.take_up.auto.buffer, ap (λ l. length l) c.as_mut_slice.ensures.value, old.buffer.ok.0) in
    let is : (with_items old.buffer c.take_up.new.buffer).items ≡ c.take_up.new.buffer = with_items_is old.buffer c.take_up.new.buffer fits in
    taken_resumes g.D.Device.bytes old of c.requires.of c.requires.at request line c.go_on_taken_up-woken.new.self (record old { buffer = with_items old.buffer c.take_up.new.buffer }) c.take_up.new.pass
    c.in-Did.answer c.in-Did.named c.ask-in-Did.new.cx
    (calls_at g.D.Device.bytes c.args.env.now.lock.now old.co request (TookUp c.in-Did.answer) c.in-Did.named old.pass c.take_up.new.pass
    c.as_mut_slice.result.now old.buffer.items c.take_up.new.buffer (with_items old.buffer c.take_up.new.buffer).items c.as_mut_slice.ensures.value is c.in-Did.ensures.turn)
    c.go_on_taken_up-woken.ensures.moves
    (c.ask-in-Did.ensures ∙ ap (λ (who : _). wants_wakes (listed c.in-Did.named ++ listed who ++ listed c.go_on_taken_up-woken.result.1) false) c.go_on_taken_up-woken.ensures.woken
    ∙ ap (λ (who : _). wants_wakes (listed c.in-Did.named ++ listed (woken_by (TookUp c.in-Did.answer)) ++ listed who) false) c.go_on_taken_up-woken.ensures.itself)
