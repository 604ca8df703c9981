use Rattle.std.proofs.Common.{refl, sym, subst}
use Rattle.img_shared.specs.Notes.{Note}
use Rattle.img_shared.specs.Phases.{CanLeave}
use Rattle.img_streams.specs.ImageCalls.{come_to}
use Rattle.img_streams.specs.Own.{own_note}
use Rattle.img_streams.proofs.Owns.{own_found, own_left, known_found, row_found, calls}
use Rattle.img_streams.proofs.Accounted.{has_left, came_to, keeps_left}
use Rattle.img_streams.proofs.turns.leave.Goals as goal

pub leave-answer-requires-clause-known : goal.leave-answer-requires-clause-known
leave-answer-requires-clause-known g c =
    known_found g.D.Device.bytes c.args.lock.now c.args.pass.now c.reach.new.pass c.args.co.co c.args.queued c.requires.of c.reach.new.pass c.in-Held.guard.value c.value.result.now c.value.ensures.value c.in-Held.ensures.reaches

pub leave-answer-requires-clause-ended : goal.leave-answer-requires-clause-ended
leave-answer-requires-clause-ended g c =
    subst (λ (n : Note _). CanLeave n.phase) (sym (own_found g.D.Device.bytes c.args.lock.now c.args.pass.now c.reach.new.pass c.args.co.co c.args.queued c.requires.of c.reach.new.pass c.in-Held.guard.value c.value.result.now c.value.ensures.value c.in-Held.ensures.reaches)) c.requires.ended

pub returns-in-Held-clause-turn : goal.returns-in-Held-clause-turn
returns-in-Held-clause-turn g c =
    calls g.D.Device.bytes c.args.lock.now c.args.pass.now c.unlock.new.pass c.args.co.co c.args.queued c.requires.of c.reach.new.pass c.in-Held.guard.value c.value.result.now c.value.ensures.value c.in-Held.ensures.reaches c.leave-answer.new.image c.unlock.result c.unlock.ensures.unlock
    _ c.args.co refl c.unlock.ensures.pass c.leave-answer.ensures.left (came_to c.args.co c.value.result.now c.leave-answer.new.image (keeps_left g.D.Device.bytes c.args.co.co (come_to c.args.co c.value.result.now) c.leave-answer.new.image (row_found g.D.Device.bytes c.args.lock.now c.args.pass.now c.unlock.new.pass c.args.co.co c.args.queued c.requires.of c.reach.new.pass c.in-Held.guard.value c.value.result.now c.value.ensures.value c.in-Held.ensures.reaches) c.leave-answer.ensures.left.place c.leave-answer.ensures.left.leaves))

pub returns-in-Held-clause-left : goal.returns-in-Held-clause-left
returns-in-Held-clause-left g c =
    has_left g.D.Device.bytes c.args.co.co (come_to c.args.co c.value.result.now) c.leave-answer.new.image
    (row_found g.D.Device.bytes c.args.lock.now c.args.pass.now c.unlock.new.pass c.args.co.co c.args.queued c.requires.of c.reach.new.pass c.in-Held.guard.value c.value.result.now c.value.ensures.value c.in-Held.ensures.reaches)
    (own_note g.D.Device.bytes c.args.lock.now c.args.pass.now) (own_note g.D.Device.bytes c.args.lock.now c.unlock.new.pass)
    (own_found g.D.Device.bytes c.args.lock.now c.args.pass.now c.unlock.new.pass c.args.co.co c.args.queued c.requires.of c.reach.new.pass c.in-Held.guard.value c.value.result.now c.value.ensures.value c.in-Held.ensures.reaches)
    (own_left g.D.Device.bytes c.args.lock.now c.args.pass.now c.unlock.new.pass c.args.co.co c.args.queued c.requires.of c.reach.new.pass c.in-Held.guard.value c.value.result.now c.value.ensures.value c.in-Held.ensures.reaches c.leave-answer.new.image c.unlock.result c.unlock.ensures.unlock)
    c.leave-answer.ensures.left.place c.requires.ended c.leave-answer.ensures.left.leaves
