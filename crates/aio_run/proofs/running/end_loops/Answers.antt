use Rattle.std.proofs.Common.{length, ap, subst, arith}
use Rattle.std.specs.List.{AllByRecursion}
use Rattle.aio_run.specs.Berths.{BerthsAreOf}
use Rattle.aio_run.specs.Ends.{end_of_run}
use Rattle.aio_run.proofs.Lists.{length_pushed, mapped_more}
use Rattle.aio_run.proofs.running.end_loops.Goals as goal

pub loop-run-preserved : goal.loop-run-preserved
loop-run-preserved g c =
    let was = c.loop-run.invariant in
    let runs = subst (AllByRecursion (λ run. BerthsAreOf g.D.Device.bytes c.args.script.now c.args.lock.now run.work.crew.ended.items)) c.in-Some.ensures.items was.runs in
    let fewer = ap length c.in-Some.ensures.items in
    let longer = ap length c.push_reserved.ensures.items in
    let pushed = length_pushed c.loop-run.ends.items c.end_one.result in
    record {
      berths = c.end_one.ensures.berths;
      room = omega (arith, was.room, fewer, longer, pushed, c.push_reserved.ensures.capacity);
      runs = runs.1;
      kept = mapped_more end_of_run c.loop-run.ends.items _ _ c.args.runs.items c.end_one.result _ _ c.in-Some.ensures.items c.end_one.ensures.ends c.push_reserved.ensures.items was.kept;
    }
