use Rattle.stream_ends.specs.Stops.{AreGoing}
use Rattle.end_tests.proofs.wakes.play.Given as goal

abbrev pub invariant-loop-row : goal.invariant-loop-row
invariant-loop-row g l = AreGoing g.D.Device.bytes l.env.script.now l.env.lock.now l.streams.items
