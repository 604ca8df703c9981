use Rattle.co_schedule.specs.Calls.{IsSeatOf}
use Rattle.schedule_bench.proofs.same.schedule_all.Given as goal

abbrev pub invariant-loop-co : goal.invariant-loop-co
invariant-loop-co g l = IsSeatOf l.table l.seat
