use Rattle.std.proofs.Common.{arith, length-append}
use Rattle.std.proofs.lemmas.Grind.{common_steps}
use Rattle.std.proofs.lemmas.List.{length-take}
use Rattle.aio_words.proofs.ContentLemmas.{TakesBytes-append}
use Rattle.aio_cli.proofs.Reading.{one_read_more, reads_so_far}
use Rattle.aio_cli.proofs.read.read_text.Goals as goal

pub returns-in_err-extend_from_slice-clause-few : goal.returns-in_err-extend_from_slice-clause-few
returns-in_err-extend_from_slice-clause-few g c = record {
  text = _;
  taken = TakesBytes-append _ _ _ _ _ c.loop-chunk.invariant.0 c.in_ok-n.ensures.taken;
  few = simp (length-append, length-take) (omega (arith, c.in_ok-n.ensures.within));
}

pub loop-chunk-preserved : goal.loop-chunk-preserved
loop-chunk-preserved g c =
    let well = one_read_more _ _ _ c.min-room.result c.in_ok-n.n c.loop-chunk.invariant.4 (omega arith) c.in_ok-n.ensures.called in (
      rw c.in_ok-extend_from_slice.ensures.items (TakesBytes-append _ _ _ _ _ c.loop-chunk.invariant.0 c.in_ok-n.ensures.taken),
      grind (arith, common_steps),
      omega arith,
      grind (arith, common_steps),
      well,
    )

pub returns-in_err-extend_from_slice-clause-read_on : goal.returns-in_err-extend_from_slice-clause-read_on
returns-in_err-extend_from_slice-clause-read_on g c = λ _.
    reads_so_far _ _ (one_read_more _ _ _ c.min-room.result c.in_ok-n.n c.loop-chunk.invariant.4 (omega arith) c.in_ok-n.ensures.called)
