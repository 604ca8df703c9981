use Rattle.std.proofs.Common.{◌≡◌, MatchBool, ◌∙◌, subst, arith, ◌+◌}
use Rattle.lot_pool.specs.Pools.{GivesBack}
use Rattle.lot_pool.proofs.Passes.{gives_next, others_stay}
use Rattle.lot_pool.proofs.pool.LotPool.give_each_kept.Goals as goal

pub loop-index-preserved : goal.loop-index-preserved
loop-index-preserved g c =
    let pool = c.args.self.now in
    let start = c.args.home.now in
    let before = c.loop-index.home in
    let index = c.loop-index.index in
    let after = c.give_if_kept.new.home in
    let v = c.loop-index.invariant in
    let given = subst (λ b. MatchBool b (GivesBack pool (pool.handles + index) before after) (after ≡ before)) (v.later index (omega arith)) c.give_if_kept.ensures.given in
    record {
      home = c.give_if_kept.ensures.home;
      given = gives_next pool index (index + 1) (omega arith) start.keeps start before after v.given given;
      later = λ j above. others_stay pool start.keeps index j before after (omega (above, arith)) given ∙ v.later j (omega (above, arith));
    }
