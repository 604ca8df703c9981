use Rattle.std.proofs.Common.{◌∙◌, ap, refl}
use Rattle.img_shared.specs.Notes.{Note}
use Rattle.img_streams.specs.Own.{own_note}
use Rattle.img_streams.proofs.Owns.{own_found, own_left, known_found, row_found, calls}
use Rattle.img_streams.proofs.Granted.{is_taken_up, keeps_taken_up}
use Rattle.img_streams.proofs.turns.take_up.Goals as goal

pub take_up-answer-requires-clause-known : goal.take_up-answer-requires-clause-known
take_up-answer-requires-clause-known g c =
    known_found g.D.Device.bytes c.args.lock.now c.args.pass.now c.reach.new.pass c.args.co.co c.args.queued c.requires.of c.reach.new.pass c.in-Held.guard.value c.value.result.now c.value.ensures.value c.in-Held.ensures.reaches

pub take_up-answer-requires-clause-waits : goal.take_up-answer-requires-clause-waits
take_up-answer-requires-clause-waits g c =
    ap (λ (n : Note _). n.phase) (own_found g.D.Device.bytes c.args.lock.now c.args.pass.now c.reach.new.pass c.args.co.co c.args.queued c.requires.of c.reach.new.pass c.in-Held.guard.value c.value.result.now c.value.ensures.value c.in-Held.ensures.reaches) ∙ c.requires.waits

pub returns-in-Held-clause-turn : goal.returns-in-Held-clause-turn
returns-in-Held-clause-turn g c =
    calls g.D.Device.bytes c.args.lock.now c.args.pass.now c.unlock.new.pass c.args.co.co c.args.queued c.requires.of c.reach.new.pass c.in-Held.guard.value c.value.result.now c.value.ensures.value c.in-Held.ensures.reaches c.take_up-answer.new.image c.unlock.result c.unlock.ensures.unlock
    _ c.args.co refl c.unlock.ensures.pass c.take_up-answer.ensures.taken (keeps_taken_up g.D.Device.bytes c.args.co c.value.result.now c.args.request.now c.take_up-answer.new.image (row_found g.D.Device.bytes c.args.lock.now c.args.pass.now c.unlock.new.pass c.args.co.co c.args.queued c.requires.of c.reach.new.pass c.in-Held.guard.value c.value.result.now c.value.ensures.value c.in-Held.ensures.reaches) c.args.buffer.now c.take_up-answer.new.buffer c.take_up-answer.result c.take_up-answer.ensures.taken)

pub returns-in-Held-clause-taken : goal.returns-in-Held-clause-taken
returns-in-Held-clause-taken g c =
    is_taken_up g.D.Device.bytes c.args.co c.value.result.now c.args.request.now c.take_up-answer.new.image
    (row_found g.D.Device.bytes c.args.lock.now c.args.pass.now c.unlock.new.pass c.args.co.co c.args.queued c.requires.of c.reach.new.pass c.in-Held.guard.value c.value.result.now c.value.ensures.value c.in-Held.ensures.reaches) c.args.buffer.now c.take_up-answer.new.buffer
    (own_note g.D.Device.bytes c.args.lock.now c.args.pass.now) (own_note g.D.Device.bytes c.args.lock.now c.unlock.new.pass)
    (own_found g.D.Device.bytes c.args.lock.now c.args.pass.now c.unlock.new.pass c.args.co.co c.args.queued c.requires.of c.reach.new.pass c.in-Held.guard.value c.value.result.now c.value.ensures.value c.in-Held.ensures.reaches)
    (own_left g.D.Device.bytes c.args.lock.now c.args.pass.now c.unlock.new.pass c.args.co.co c.args.queued c.requires.of c.reach.new.pass c.in-Held.guard.value c.value.result.now c.value.ensures.value c.in-Held.ensures.reaches c.take_up-answer.new.image c.unlock.result c.unlock.ensures.unlock)
    c.take_up-answer.result c.requires.waits c.take_up-answer.ensures.taken c.take_up-answer.ensures.clean c.take_up-answer.ensures.inside
