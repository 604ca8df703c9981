use Rattle.std.proofs.Common.{◌∙◌, sum, ap, arith}
use Rattle.stream_ends.proofs.Scripts.{counts_together, few_asks}
use Rattle.stream_ends.proofs.beginning.begin.Goals as goal

pub build-requires-2-clause-few : goal.build-requires-2-clause-few
build-requires-2-clause-few g c = omega (
  arith,
  ap (λ l. sum l) (c.as_slice.ensures.value ∙ c.in-Ok.ensures.counts),
  counts_together c.args.script.now c.requires.bounded,
  few_asks c.args.script.now c.requires.bounded,
)
