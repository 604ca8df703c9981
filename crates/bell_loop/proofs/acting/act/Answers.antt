use Rattle.std.proofs.Common.{refl}
use Rattle.aio_model.specs.Loop.History.{ToCall, ToCallIdle, ToDelete}
use Rattle.aio_model.specs.declared.scripts.loop_scripts.ActKind.TheVariants.{Schedule, Idle, Delete, Cancel, Nest}
use Rattle.bell_loop.proofs.Actions.{Acts-at, Acts-enqueue, Acts-cancel, Acts-nest, legal_here}
use Rattle.bell_loop.proofs.acting.act.Goals as goal

pub returns-in-Schedule-clause-acts : goal.returns-in-Schedule-clause-acts
returns-in-Schedule-clause-acts g c =
    Acts-at (Schedule c.in-Schedule.i) _ _ _ c.in-Schedule.is (Acts-enqueue (Schedule c.in-Schedule.i) c.in-Schedule.i ToCall _ _ _ refl c.requires.lent.first c.requires.lent.rest c.schedule.ensures.seat.rest c.schedule.ensures.stands)

pub returns-in-Idle-clause-acts : goal.returns-in-Idle-clause-acts
returns-in-Idle-clause-acts g c =
    Acts-at (Idle c.in-Idle.i) _ _ _ c.in-Idle.is (Acts-enqueue (Idle c.in-Idle.i) c.in-Idle.i ToCallIdle _ _ _ refl c.requires.lent.first c.requires.lent.rest c.schedule_idle.ensures.seat.rest c.schedule_idle.ensures.stands)

pub returns-in-Delete-clause-acts : goal.returns-in-Delete-clause-acts
returns-in-Delete-clause-acts g c =
    Acts-at (Delete c.in-Delete.i) _ _ _ c.in-Delete.is (Acts-enqueue (Delete c.in-Delete.i) c.in-Delete.i ToDelete _ _ _ refl c.requires.lent.first c.requires.lent.rest c.delete.ensures.seat.rest c.delete.ensures.stands)

pub returns-in-Cancel-clause-acts : goal.returns-in-Cancel-clause-acts
returns-in-Cancel-clause-acts g c =
    Acts-at (Cancel c.in-Cancel.i) _ _ _ c.in-Cancel.is (Acts-cancel c.in-Cancel.i _ _ _ c.requires.lent.first c.requires.lent.count c.requires.lent.rest c.cancel.ensures.step)

pub returns-in-Nest-clause-acts : goal.returns-in-Nest-clause-acts
returns-in-Nest-clause-acts g c = Acts-at Nest _ _ _ c.in-Nest.is (Acts-nest _ _ (legal_here _ _ c.requires.lent) refl)
