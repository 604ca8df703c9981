use Rattle.std.proofs.Common.{◌≡◌, ◌+◌, vec_len, length, subst, arith}
use Rattle.co_mutex.specs.Decks.{IsResting}
use Rattle.co_mutex.proofs.Decks.{last_one, before_it}
use Rattle.lock_bench.proofs.four.pair.Goals as goal

pub returns-clause-each : goal.returns-clause-each
returns-clause-each c =
    let lock = c.args.lock.now in
    before_it lock c.pop.new.self.items c.pop-2.new.self.items c.in-Some-pop.first c.in-Some-pop.ensures.items (before_it lock c.args.passes.now.items c.pop.new.self.items c.in-Some.second c.in-Some.ensures.items c.requires.each)

pub returns-clause-pair : goal.returns-clause-pair
returns-clause-pair c =
    let lock = c.args.lock.now in
    let last = c.in-Some.ensures.items in
    let front = before_it lock c.args.passes.now.items c.pop.new.self.items c.in-Some.second last c.requires.each in
    let one = c.pop.new.self.ok.0 in
    let two = c.pop-2.new.self.ok.0 in
    let less = c.in-Some-pop.ensures.len in
    let here : length c.pop-2.new.self.items ≡ vec_len c.pop-2.new.self = omega (arith, two) in
    let behind : length c.pop.new.self.items ≡ vec_len c.pop-2.new.self + 1 = omega (arith, one, less) in (
      subst (λ k. IsResting lock k c.in-Some-pop.first) here (last_one lock c.pop.new.self.items c.pop-2.new.self.items c.in-Some-pop.first c.in-Some-pop.ensures.items front),
      subst (λ k. IsResting lock k c.in-Some.second) behind (last_one lock c.args.passes.now.items c.pop.new.self.items c.in-Some.second last c.requires.each),
    )
