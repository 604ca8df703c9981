use Rattle.std.proofs.Common.{◌≡◌, length, subst, arith}
use Rattle.co_mutex.specs.Decks.{IsResting}
use Rattle.co_mutex.proofs.Decks.{new_rest, last_one}
use Rattle.lock_bench.proofs.one.one_pass.Goals as goal

pub take_turns-requires : goal.take_turns-requires
take_turns-requires g c =
    let lock = c.in-Ok.lock in
    let last = last_one lock _ c.pop.new.self.items c.in-Some.pass c.in-Some.ensures.items (λ k p at. new_rest lock k p (c.in-Ok.ensures.passes.1 k p at)) in
    let one = c.in-Ok.ensures.passes.0 in
    let less = c.in-Some.ensures.len in
    let long = c.pop.new.self.ok.0 in
    let none : length c.pop.new.self.items ≡ 0 = omega (arith, one, less, long) in
    record { pass = subst (λ k. IsResting lock k c.in-Some.pass) none last }
