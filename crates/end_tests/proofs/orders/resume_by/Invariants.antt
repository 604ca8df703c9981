use Rattle.stream_ends.specs.Stops.{AreGoing}
use Rattle.end_tests.proofs.orders.resume_by.Given as goal

abbrev pub invariant-loop-i : goal.invariant-loop-i
invariant-loop-i g l = AreGoing g.D.Device.bytes l.env.script.now l.env.lock.now l.streams.items
