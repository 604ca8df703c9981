use Rattle.std.proofs.Common.{◌≡◌, ◌∙◌, ◌++◌, [], length, true, false, ap, inl, refl, sym, subst, arith}
use Rattle.img_streams.specs.Deeds.{Served, listed, wants_wakes}
use Rattle.img_streams.specs.Streams.{source}
use Rattle.img_streams.proofs.Entering.{line_of, waits_resumes, hand_asks}
use Rattle.std.specs.Vec.{with_items}
use Rattle.std.proofs.lemmas.List.{with_items_is}
use Rattle.img_requests.specs.Pieces.{HasRoom}
use Rattle.img_streams.specs.Own.{own_note}
use Rattle.img_streams.proofs.StreamsGoOn.{room_now}
use Rattle.img_streams.proofs.Serving.{asks_serving, serving_now, served_is, served_resumes, served_at, calls_at}
use Rattle.img_streams.proofs.states.Stream+ImageRule+D.serve.Goals as goal

pub serve-requires-clause-serving : goal.serve-requires-clause-serving
serve-requires-clause-serving g c =
    let old = c.args.self.now in
    let of = source c.args.env.now.lock.now c.args.env.now.script.now in
    let request = c.request_at-request.result.now in
    let line = line_of c.args.env.now.script.now.lines c.as_slice.result.now old.id old.line request c.as_slice.ensures
    (asks_serving g.D.Device.bytes old of c.requires.of c.requires.at) c.request_at-request.ensures in
    serving_now g.D.Device.bytes old of c.requires.of c.requires.at request line

pub serve-requires-clause-room : goal.serve-requires-clause-room
serve-requires-clause-room g c =
    let old = c.args.self.now in
    let of = source c.args.env.now.lock.now c.args.env.now.script.now in
    let request = c.request_at-request.result.now in
    let line = line_of c.args.env.now.script.now.lines c.as_slice.result.now old.id old.line request c.as_slice.ensures
    (asks_serving g.D.Device.bytes old of c.requires.of c.requires.at) c.request_at-request.ensures in
    subst (λ l. HasRoom request l) (sym c.as_mut_slice.ensures.value) (room_now g.D.Device.bytes old of c.requires.of request line)

pub returns-in-Waits-clause-resumes : goal.returns-in-Waits-clause-resumes
returns-in-Waits-clause-resumes g c =
    let old = c.args.self.now in
    let of = source c.args.env.now.lock.now c.args.env.now.script.now in
    waits_resumes g.D.Device.bytes old of (record old { pass = c.serve.new.pass; queued = true; buffer = with_items old.buffer c.serve.new.buffer }) c.in-Waits.named c.ask.new.cx
    (inl (hand_asks g.D.Device.bytes old of c.requires.of (asks_serving g.D.Device.bytes old of c.requires.of c.requires.at)))
    c.in-Waits.ensures.turn c.ask.ensures refl refl refl

pub returns-in-Did-clause-of : goal.returns-in-Did-clause-of
returns-in-Did-clause-of g c =
    let old = c.args.self.now in
    let of = source c.args.env.now.lock.now c.args.env.now.script.now in
    let request = c.request_at-request.result.now in
    let line = line_of c.args.env.now.script.now.lines c.as_slice.result.now old.id old.line request c.as_slice.ensures
    (asks_serving g.D.Device.bytes old of c.requires.of c.requires.at) c.request_at-request.ensures in
    let fits : length c.serve.new.buffer ≡ old.buffer.len = omega (arith, c.serve.auto.buffer, ap (λ l. length l) c.as_mut_slice.ensures.value, old.buffer.ok.0) in
    let is : (with_items old.buffer c.serve.new.buffer).items ≡ c.serve.new.buffer = with_items_is old.buffer c.serve.new.buffer fits in
    served_is g.D.Device.bytes old of c.requires.of c.requires.at request line c.go_on_after_piece-itself.new.self (record old { buffer = with_items old.buffer c.serve.new.buffer }) c.serve.new.pass
    c.in-Did.answer c.in-Did.ensures.turn.of
    (served_at g.D.Device.bytes old.co.co request c.in-Did.answer (own_note g.D.Device.bytes c.args.env.now.lock.now old.pass) (own_note g.D.Device.bytes c.args.env.now.lock.now c.serve.new.pass)
    c.as_mut_slice.result.now old.buffer.items c.serve.new.buffer (with_items old.buffer c.serve.new.buffer).items c.as_mut_slice.ensures.value is c.in-Did.ensures.served)
    c.go_on_after_piece-itself.ensures.moves

pub returns-in-Did-clause-resumes : goal.returns-in-Did-clause-resumes
returns-in-Did-clause-resumes g c =
    let old = c.args.self.now in
    let of = source c.args.env.now.lock.now c.args.env.now.script.now in
    let request = c.request_at-request.result.now in
    let line = line_of c.args.env.now.script.now.lines c.as_slice.result.now old.id old.line request c.as_slice.ensures
    (asks_serving g.D.Device.bytes old of c.requires.of c.requires.at) c.request_at-request.ensures in
    let fits : length c.serve.new.buffer ≡ old.buffer.len = omega (arith, c.serve.auto.buffer, ap (λ l. length l) c.as_mut_slice.ensures.value, old.buffer.ok.0) in
    let is : (with_items old.buffer c.serve.new.buffer).items ≡ c.serve.new.buffer = with_items_is old.buffer c.serve.new.buffer fits in
    served_resumes g.D.Device.bytes old of c.requires.of c.requires.at request line c.go_on_after_piece-itself.new.self (record old { buffer = with_items old.buffer c.serve.new.buffer }) c.serve.new.pass
    c.in-Did.answer c.in-Did.named c.ask-in-Did.new.cx
    (calls_at g.D.Device.bytes c.args.env.now.lock.now old.co request (Served c.in-Did.answer) c.in-Did.named old.pass c.serve.new.pass
    c.as_mut_slice.result.now old.buffer.items c.serve.new.buffer (with_items old.buffer c.serve.new.buffer).items c.as_mut_slice.ensures.value is c.in-Did.ensures.turn)
    c.go_on_after_piece-itself.ensures.moves
    (c.ask-in-Did.ensures ∙ ap (λ (who : _). wants_wakes (listed c.in-Did.named ++ [] ++ listed who) false) c.go_on_after_piece-itself.ensures.itself)
