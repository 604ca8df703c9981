-- The streams so far are there.
use Rattle.std.proofs.Common.{◌≡◌}
use Rattle.script_generator.specs.Generated.{streams_to}
use Rattle.script_generator.proofs.scripts.streams.Given as goal

abbrev pub invariant-loop-id : goal.invariant-loop-id
invariant-loop-id l = l.streams.items ≡ streams_to l.id
