use Rattle.stream_ends.specs.Stops.{AreGoing}
use Rattle.stream_ends.proofs.rounds.carry.Given as goal

abbrev pub invariant-loop : goal.invariant-loop
invariant-loop g l = AreGoing g.D.Device.bytes l.script l.lock l.streams.items
