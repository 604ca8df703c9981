use Rattle.std.proofs.Common.{◌≡◌, ◌+◌, ◌≤◌, ◌++◌, length, map, vec_capacity}
use Rattle.std.specs.List.{AllByRecursion}
use Rattle.aio_run.specs.Berths.{BerthsAreOf, AreBerthed}
use Rattle.aio_run.specs.Ends.{end_of_run}
use Rattle.aio_run.proofs.running.end_loops.Given as goal

abbrev pub invariant-loop-run : goal.invariant-loop-run
invariant-loop-run g l = record {
  berths : AreBerthed g.D.Device.bytes l.script l.lock l.berths.items;
  room : length l.ends.items + length l.runs.items ≤ vec_capacity l.ends;
  runs : AllByRecursion (λ run. BerthsAreOf g.D.Device.bytes l.script l.lock run.work.crew.ended.items) l.runs.items;
  kept : l.ends.items ++ map end_of_run l.runs.items ≡ map end_of_run l.fn.runs.items;
}

abbrev pub decreases-loop-run : goal.decreases-loop-run
decreases-loop-run g l = length l.runs.items
