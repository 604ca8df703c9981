use Rattle.std.proofs.Common.{◌∙◌, ap, refl, sym}
use Rattle.img_shared.specs.Notes.{Note}
use Rattle.img_streams.specs.ImageCalls.{come_to}
use Rattle.img_streams.specs.Own.{own_note}
use Rattle.img_streams.proofs.Owns.{own_found, own_left, known_found, row_found, entries_found, requests_found, calls}
use Rattle.img_streams.proofs.Accounted.{has_retired, came_to, keeps_retired, retired_is}
use Rattle.img_streams.proofs.turns.retire.Goals as goal

pub retire-answer-requires-clause-known : goal.retire-answer-requires-clause-known
retire-answer-requires-clause-known g c =
    known_found g.D.Device.bytes c.args.lock.now c.args.pass.now c.reach.new.pass c.args.co.co c.args.queued c.requires.of c.reach.new.pass c.in-Held.guard.value c.value.result.now c.value.ensures.value c.in-Held.ensures.reaches

pub retire-answer-requires-clause-free : goal.retire-answer-requires-clause-free
retire-answer-requires-clause-free g c =
    ap (λ (n : Note _). n.phase) (own_found g.D.Device.bytes c.args.lock.now c.args.pass.now c.reach.new.pass c.args.co.co c.args.queued c.requires.of c.reach.new.pass c.in-Held.guard.value c.value.result.now c.value.ensures.value c.in-Held.ensures.reaches) ∙ c.requires.idle

pub retire-answer-requires-clause-all : goal.retire-answer-requires-clause-all
retire-answer-requires-clause-all g c =
    entries_found g.D.Device.bytes c.args.lock.now c.args.pass.now c.reach.new.pass c.args.co.co c.args.queued c.requires.of c.reach.new.pass c.in-Held.guard.value c.value.result.now c.value.ensures.value c.in-Held.ensures.reaches ∙ c.requires.all ∙ sym (requests_found g.D.Device.bytes c.args.lock.now c.args.pass.now c.reach.new.pass c.args.co.co c.args.queued c.requires.of c.reach.new.pass c.in-Held.guard.value c.value.result.now c.value.ensures.value c.in-Held.ensures.reaches)

pub returns-in-Held-clause-turn : goal.returns-in-Held-clause-turn
returns-in-Held-clause-turn g c =
    calls g.D.Device.bytes c.args.lock.now c.args.pass.now c.unlock.new.pass c.args.co.co c.args.queued c.requires.of c.reach.new.pass c.in-Held.guard.value c.value.result.now c.value.ensures.value c.in-Held.ensures.reaches c.retire-answer.new.image c.unlock.result c.unlock.ensures.unlock
    _ c.args.co refl c.unlock.ensures.pass c.retire-answer.ensures.retired (came_to c.args.co c.value.result.now c.retire-answer.new.image (keeps_retired g.D.Device.bytes c.args.co.co (come_to c.args.co c.value.result.now) c.retire-answer.new.image (row_found g.D.Device.bytes c.args.lock.now c.args.pass.now c.unlock.new.pass c.args.co.co c.args.queued c.requires.of c.reach.new.pass c.in-Held.guard.value c.value.result.now c.value.ensures.value c.in-Held.ensures.reaches) (retired_is c.args.co c.value.result.now c.retire-answer.new.image c.retire-answer.ensures.retired.1)))

pub returns-in-Held-clause-retired : goal.returns-in-Held-clause-retired
returns-in-Held-clause-retired g c =
    has_retired g.D.Device.bytes c.args.co.co (come_to c.args.co c.value.result.now) c.retire-answer.new.image
    (row_found g.D.Device.bytes c.args.lock.now c.args.pass.now c.unlock.new.pass c.args.co.co c.args.queued c.requires.of c.reach.new.pass c.in-Held.guard.value c.value.result.now c.value.ensures.value c.in-Held.ensures.reaches)
    (own_note g.D.Device.bytes c.args.lock.now c.args.pass.now) (own_note g.D.Device.bytes c.args.lock.now c.unlock.new.pass)
    (own_found g.D.Device.bytes c.args.lock.now c.args.pass.now c.unlock.new.pass c.args.co.co c.args.queued c.requires.of c.reach.new.pass c.in-Held.guard.value c.value.result.now c.value.ensures.value c.in-Held.ensures.reaches)
    (own_left g.D.Device.bytes c.args.lock.now c.args.pass.now c.unlock.new.pass c.args.co.co c.args.queued c.requires.of c.reach.new.pass c.in-Held.guard.value c.value.result.now c.value.ensures.value c.in-Held.ensures.reaches c.retire-answer.new.image c.unlock.result c.unlock.ensures.unlock)
    (retired_is c.args.co c.value.result.now c.retire-answer.new.image c.retire-answer.ensures.retired.1)
