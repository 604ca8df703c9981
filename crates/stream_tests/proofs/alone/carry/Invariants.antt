use Rattle.img_streams.specs.Streams.{IsStreamOf, source}
use Rattle.stream_tests.proofs.alone.carry.Given as goal

abbrev pub invariant-loop : goal.invariant-loop
invariant-loop g l = IsStreamOf g.D.Device.bytes l.co (source l.lock l.script)
