use Rattle.stream_ends.specs.Stops.{AreGoing}
use Rattle.stream_carrier.proofs.carrying.carry_woken.Given as goal

abbrev pub invariant-loop : goal.invariant-loop
invariant-loop g l = AreGoing g.D.Device.bytes l.env.script.now l.env.lock.now l.streams.items
