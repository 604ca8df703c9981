use Rattle.std.proofs.Common.{◌≡◌, ◌+◌, vec_len, length, subst, arith}
use Rattle.co_mutex.specs.Decks.{IsResting}
use Rattle.co_mutex.proofs.Decks.{one_more}
use Rattle.lock_bench.proofs.four.put_back.Goals as goal

pub returns-clause-each : goal.returns-clause-each
returns-clause-each c =
    let lock = c.args.lock.now in
    let zero = c.args.passes.now.ok.0 in
    let one = c.push_reserved.new.self.ok.0 in
    let longer = c.push_reserved.ensures.len in
    let here : vec_len c.args.passes.now ≡ length c.args.passes.now.items = omega (arith, zero) in
    let behind : vec_len c.args.passes.now + 1 ≡ length c.push_reserved.new.self.items = omega (arith, one, longer) in
    one_more lock c.push_reserved.new.self.items _ c.args.both.1 c.push_reserved-2.ensures.items (one_more lock c.args.passes.now.items _ c.args.both.0 c.push_reserved.ensures.items c.requires.each (subst (λ k. IsResting lock k c.args.both.0) here c.requires.pair.0)) (subst (λ k. IsResting lock k c.args.both.1) behind c.requires.pair.1)
