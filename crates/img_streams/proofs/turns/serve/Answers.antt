use Rattle.std.proofs.Common.{refl, sym, subst}
use Rattle.img_shared.specs.Notes.{Note}
use Rattle.img_shared.specs.Phases.{done_in}
use Rattle.img_shared.specs.Calls.{IsServing}
use Rattle.img_streams.specs.ImageCalls.{come_to}
use Rattle.img_streams.specs.Own.{own_note}
use Rattle.img_streams.proofs.Owns.{own_found, own_left, known_found, row_found, calls}
use Rattle.img_streams.proofs.Accounted.{is_served, came_to, keeps_served}
use Rattle.img_streams.proofs.turns.serve.Goals as goal

pub serve-answer-requires-clause-known : goal.serve-answer-requires-clause-known
serve-answer-requires-clause-known g c =
    known_found g.D.Device.bytes c.args.lock.now c.args.pass.now c.reach.new.pass c.args.co.co c.args.queued c.requires.of c.reach.new.pass c.in-Held.guard.value c.value.result.now c.value.ensures.value c.in-Held.ensures.reaches

pub serve-answer-requires-clause-begun : goal.serve-answer-requires-clause-begun
serve-answer-requires-clause-begun g c =
    subst (λ (n : Note _). IsServing n.phase c.args.co.co c.args.request.now (done_in n.phase)) (sym (own_found g.D.Device.bytes c.args.lock.now c.args.pass.now c.reach.new.pass c.args.co.co c.args.queued c.requires.of c.reach.new.pass c.in-Held.guard.value c.value.result.now c.value.ensures.value c.in-Held.ensures.reaches)) c.requires.serving

pub returns-in-Held-clause-turn : goal.returns-in-Held-clause-turn
returns-in-Held-clause-turn g c =
    calls g.D.Device.bytes c.args.lock.now c.args.pass.now c.unlock.new.pass c.args.co.co c.args.queued c.requires.of c.reach.new.pass c.in-Held.guard.value c.value.result.now c.value.ensures.value c.in-Held.ensures.reaches c.serve-answer.new.image c.unlock.result c.unlock.ensures.unlock
    _ c.args.co refl c.unlock.ensures.pass c.serve-answer.ensures.served (came_to c.args.co c.value.result.now c.serve-answer.new.image (keeps_served g.D.Device.bytes c.args.co.co (come_to c.args.co c.value.result.now) c.serve-answer.new.image (row_found g.D.Device.bytes c.args.lock.now c.args.pass.now c.unlock.new.pass c.args.co.co c.args.queued c.requires.of c.reach.new.pass c.in-Held.guard.value c.value.result.now c.value.ensures.value c.in-Held.ensures.reaches) c.args.request.now _ c.serve-answer.result c.args.buffer.now c.serve-answer.new.buf c.serve-answer.ensures.served))

pub returns-in-Held-clause-served : goal.returns-in-Held-clause-served
returns-in-Held-clause-served g c =
    is_served g.D.Device.bytes c.args.co.co (come_to c.args.co c.value.result.now) c.serve-answer.new.image
    (row_found g.D.Device.bytes c.args.lock.now c.args.pass.now c.unlock.new.pass c.args.co.co c.args.queued c.requires.of c.reach.new.pass c.in-Held.guard.value c.value.result.now c.value.ensures.value c.in-Held.ensures.reaches)
    (own_note g.D.Device.bytes c.args.lock.now c.args.pass.now) (own_note g.D.Device.bytes c.args.lock.now c.unlock.new.pass)
    (own_found g.D.Device.bytes c.args.lock.now c.args.pass.now c.unlock.new.pass c.args.co.co c.args.queued c.requires.of c.reach.new.pass c.in-Held.guard.value c.value.result.now c.value.ensures.value c.in-Held.ensures.reaches)
    (own_left g.D.Device.bytes c.args.lock.now c.args.pass.now c.unlock.new.pass c.args.co.co c.args.queued c.requires.of c.reach.new.pass c.in-Held.guard.value c.value.result.now c.value.ensures.value c.in-Held.ensures.reaches c.serve-answer.new.image c.unlock.result c.unlock.ensures.unlock)
    c.args.request.now c.serve-answer.result c.args.buffer.now c.serve-answer.new.buf c.requires.serving c.serve-answer.ensures.served
