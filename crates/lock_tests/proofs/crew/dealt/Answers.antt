use Rattle.std.proofs.Common.{◌≡◌, ◌+◌, length, sym, ap, ◌∙◌, subst, arith}
use Rattle.co_mutex.specs.Passes.{IsPassOf, known}
use Rattle.lock_tests.specs.Crews.{IsPlayerOf}
use Rattle.co_mutex.proofs.Decks.{last_one, before_it}
use Rattle.lock_tests.proofs.Crews.{comes_behind}
use Rattle.lock_tests.proofs.crew.dealt.Goals as goal

pub of-requires : goal.of-requires
of-requires g c =
    record { rest = (last_one c.args.lock.now c.loop-pass.passes.items c.pop.new.self.items c.in-Some.pass c.in-Some.ensures.items c.loop-pass.invariant.0).1 }

pub loop-pass-preserved : goal.loop-pass-preserved
loop-pass-preserved g c =
    let m = c.args.lock.now in
    let n = c.args.passes.len in
    let inv = c.loop-pass.invariant in
    let all = inv.1 in
    let room = inv.2 in
    let last = c.in-Some.ensures.items in
    let less = c.in-Some.ensures.len in
    let longer = c.push_reserved.ensures.len in
    let same = c.push_reserved.ensures.capacity in
    let a = c.loop-pass.players.ok.0 in
    let b = c.pop.new.self.ok.0 in
    let rest = last_one m c.loop-pass.passes.items c.pop.new.self.items c.in-Some.pass last inv.0 in
    let number = rest.2 in
    let at : (known c.in-Some.pass).number + length c.loop-pass.players.items + 1 ≡ n = omega (arith, number, all, less, a, b) in
    let fit : IsPlayerOf m n (length c.loop-pass.players.items) c.of.result = (subst (IsPassOf m) (sym c.of.ensures) rest.0, ap (λ p. (known p).number + length c.loop-pass.players.items + 1) c.of.ensures ∙ at) in (
      before_it m c.loop-pass.passes.items c.pop.new.self.items c.in-Some.pass last inv.0,
      omega (arith, all, less, longer),
      omega (arith, room, same),
      comes_behind m n c.loop-pass.players.items c.push_reserved.new.self.items c.of.result c.push_reserved.ensures.items inv.3 fit,
    )
