use Rattle.std.proofs.Common.{◌≡◌, length}
use Rattle.aio_run.specs.Berths.{BerthsAreOf, AreBerthed}
use Rattle.aio_run.proofs.returning.take_back.Given as goal

abbrev pub invariant-loop-at : goal.invariant-loop-at
invariant-loop-at g l =
    (length l.ended.items ≡ length l.fn.ended.items)
    × BerthsAreOf g.D.Device.bytes l.script l.lock l.ended.items
    × AreBerthed g.D.Device.bytes l.script l.lock l.berths.items
