use Rattle.std.proofs.Common.{length, ap, ◌∙◌, arith}
use Rattle.std.proofs.lemmas.List.{length_push}
use Rattle.shared_tests.proofs.Seated.{fresh_more}
use Rattle.shared_tests.proofs.table.players_of.Goals as goal

pub loop-stream-preserved : goal.loop-stream-preserved
loop-stream-preserved c =
    let kept = c.loop-stream.invariant in (
      fresh_more c.args.requests.now c.loop-stream.stream c.loop-stream.players.items c.push_reserved.new.self.items c.fresh.result
          c.loop-stream-test.true kept.0 c.fresh.ensures.stream c.fresh.ensures.left c.fresh.ensures.turn c.push_reserved.ensures.items,
      ap length c.push_reserved.ensures.items ∙ omega (arith, length_push c.loop-stream.players.items c.fresh.result, kept.1),
      omega (arith, kept.2, c.push_reserved.ensures.capacity),
    )
