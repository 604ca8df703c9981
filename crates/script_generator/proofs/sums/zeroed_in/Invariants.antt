-- The sum so far.
use Rattle.std.proofs.Common.{◌≡◌, take}
use Rattle.script_generator.specs.Sums.{zeroed_in, held}
use Rattle.script_generator.proofs.sums.zeroed_in.Given as goal

abbrev pub invariant-loop-placed : goal.invariant-loop-placed
invariant-loop-placed l = l.total ≡ held (zeroed_in (take l.placed-index l.served))
