use Rattle.std.proofs.Common.{◌∙◌, ap, refl, arith}
use Rattle.img_shared.specs.Notes.{Note}
use Rattle.img_streams.specs.ImageCalls.{come_to}
use Rattle.img_streams.specs.Own.{own_note}
use Rattle.img_streams.proofs.Owns.{own_found, own_left, known_found, row_found, entries_found, requests_found, calls}
use Rattle.img_streams.proofs.Accounted.{is_entered, came_to, keeps_entered}
use Rattle.img_streams.proofs.turns.enter.Goals as goal

pub enter-answer-requires-clause-known : goal.enter-answer-requires-clause-known
enter-answer-requires-clause-known g c =
    known_found g.D.Device.bytes c.args.lock.now c.args.pass.now c.reach.new.pass c.args.co.co c.args.queued c.requires.of c.reach.new.pass c.in-Held.guard.value c.value.result.now c.value.ensures.value c.in-Held.ensures.reaches

pub enter-answer-requires-clause-free : goal.enter-answer-requires-clause-free
enter-answer-requires-clause-free g c =
    ap (λ (n : Note _). n.phase) (own_found g.D.Device.bytes c.args.lock.now c.args.pass.now c.reach.new.pass c.args.co.co c.args.queued c.requires.of c.reach.new.pass c.in-Held.guard.value c.value.result.now c.value.ensures.value c.in-Held.ensures.reaches) ∙ c.requires.idle

pub enter-answer-requires-clause-due : goal.enter-answer-requires-clause-due
enter-answer-requires-clause-due g c =
    omega (arith, c.requires.due, entries_found g.D.Device.bytes c.args.lock.now c.args.pass.now c.reach.new.pass c.args.co.co c.args.queued c.requires.of c.reach.new.pass c.in-Held.guard.value c.value.result.now c.value.ensures.value c.in-Held.ensures.reaches, requests_found g.D.Device.bytes c.args.lock.now c.args.pass.now c.reach.new.pass c.args.co.co c.args.queued c.requires.of c.reach.new.pass c.in-Held.guard.value c.value.result.now c.value.ensures.value c.in-Held.ensures.reaches)

pub returns-in-Held-clause-turn : goal.returns-in-Held-clause-turn
returns-in-Held-clause-turn g c =
    calls g.D.Device.bytes c.args.lock.now c.args.pass.now c.unlock.new.pass c.args.co.co c.args.queued c.requires.of c.reach.new.pass c.in-Held.guard.value c.value.result.now c.value.ensures.value c.in-Held.ensures.reaches c.enter-answer.new.image c.unlock.result c.unlock.ensures.unlock
    _ c.args.co refl c.unlock.ensures.pass c.enter-answer.ensures.entered (came_to c.args.co c.value.result.now c.enter-answer.new.image (keeps_entered g.D.Device.bytes c.args.co.co (come_to c.args.co c.value.result.now) c.enter-answer.new.image (row_found g.D.Device.bytes c.args.lock.now c.args.pass.now c.unlock.new.pass c.args.co.co c.args.queued c.requires.of c.reach.new.pass c.in-Held.guard.value c.value.result.now c.value.ensures.value c.in-Held.ensures.reaches) c.args.request.now c.enter-answer.result c.enter-answer.ensures.entered))

pub returns-in-Held-clause-entered : goal.returns-in-Held-clause-entered
returns-in-Held-clause-entered g c =
    is_entered g.D.Device.bytes c.args.co.co (come_to c.args.co c.value.result.now) c.enter-answer.new.image
    (row_found g.D.Device.bytes c.args.lock.now c.args.pass.now c.unlock.new.pass c.args.co.co c.args.queued c.requires.of c.reach.new.pass c.in-Held.guard.value c.value.result.now c.value.ensures.value c.in-Held.ensures.reaches)
    (own_note g.D.Device.bytes c.args.lock.now c.args.pass.now) (own_note g.D.Device.bytes c.args.lock.now c.unlock.new.pass)
    (own_found g.D.Device.bytes c.args.lock.now c.args.pass.now c.unlock.new.pass c.args.co.co c.args.queued c.requires.of c.reach.new.pass c.in-Held.guard.value c.value.result.now c.value.ensures.value c.in-Held.ensures.reaches)
    (own_left g.D.Device.bytes c.args.lock.now c.args.pass.now c.unlock.new.pass c.args.co.co c.args.queued c.requires.of c.reach.new.pass c.in-Held.guard.value c.value.result.now c.value.ensures.value c.in-Held.ensures.reaches c.enter-answer.new.image c.unlock.result c.unlock.ensures.unlock)
    c.args.request.now c.enter-answer.result c.requires.idle c.enter-answer.ensures.entered c.enter-answer.ensures.clean c.enter-answer.ensures.inside
