use Rattle.std.proofs.Common.{refl}
use Rattle.aio_loop.proofs.Callees.{runs_alone}
use Rattle.turn_tests.proofs.notes.NotesLoopRunnerU64.expired.Goals as goal

pub returns-clause-runs : goal.returns-clause-runs
returns-clause-runs c =
    runs_alone _ _ c.args.self.now c.note.new.self c.args._side.now c.args._seat.now.known _ c.requires.seat.of.sizes c.requires.legal refl
