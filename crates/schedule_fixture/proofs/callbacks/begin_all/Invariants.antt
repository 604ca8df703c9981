use Rattle.std.proofs.Common.{◌≡◌, length}
use Rattle.co_schedule.specs.Calls.{IsSeatOf}
use Rattle.schedule_fixture.proofs.callbacks.begin_all.Given as goal

abbrev pub decreases-loop-co : goal.decreases-loop-co
decreases-loop-co g l = length l.run.cos

abbrev pub invariant-loop-co : goal.invariant-loop-co
invariant-loop-co g l =
    IsSeatOf l.fn.table l.home × (l.run.cos ≡ l.home.known.stage.taken) × (l.run.room ≡ l.fn.run.room)
