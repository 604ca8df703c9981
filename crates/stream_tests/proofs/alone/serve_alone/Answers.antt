use Rattle.std.proofs.Common.{arith}
use Rattle.stream_tests.proofs.OnePass.{all_of_one}
use Rattle.stream_tests.proofs.alone.serve_alone.Goals as goal

pub carry-tally-requires : goal.carry-tally-requires
carry-tally-requires g c = record { of = c.of-co.ensures.of c.args.lock c.args.script.now c.requires.can }

pub settle-image-requires : goal.settle-image-requires
settle-image-requires g c =
    let parts = c.into_parts-pass.ensures.retired c.args.lock c.args.script.now c.carry-tally.ensures.of c.carry-tally.ensures.gone in
    record { rest = (omega (arith, c.requires.one), all_of_one c.args.lock c.into_parts-pass.result.0 c.only.result.items c.only.ensures c.requires.one parts.of parts.rests) }
