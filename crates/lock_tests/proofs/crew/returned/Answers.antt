use Rattle.std.proofs.Common.{◌≡◌, length, ◌∷◌, [], ◌++◌, sym, ap, ◌∙◌, subst, arith}
use Rattle.co_mutex.specs.Passes.{IsPassOf, known}
use Rattle.co_mutex.specs.Decks.{IsResting}
use Rattle.co_mutex.proofs.Decks.{one_more}
use Rattle.lock_tests.proofs.Crews.{was_last, were_before}
use Rattle.lock_tests.proofs.crew.returned.Goals as goal

pub loop-seat-preserved : goal.loop-seat-preserved
loop-seat-preserved g c =
    let m = c.args.lock.now in
    let n = c.args.players.len in
    let inv = c.loop-seat.invariant in
    let all = inv.1 in
    let room = inv.2 in
    let last = c.in-Some.ensures.items in
    let less = c.in-Some.ensures.len in
    let longer = c.push_reserved.ensures.len in
    let same = c.push_reserved.ensures.capacity in
    let a = c.loop-seat.passes.ok.0 in
    let b = c.pop.new.self.ok.0 in
    let there = was_last m n c.loop-seat.players.items c.pop.new.self.items c.in-Some-seat.player (last ∙ ap (λ s. c.pop.new.self.items ++ s ∷ []) c.in-Some-seat.is) inv.3 in
    let number = there.1 in
    let at : (known c.in-Some-seat.player.pass).number ≡ length c.loop-seat.passes.items = omega (arith, number, all, less, a, b) in
    let fit : IsResting m (length c.loop-seat.passes.items) c.into_pass.result = (subst (IsPassOf m) (sym c.into_pass.ensures.pass) there.0, c.into_pass.ensures.rest, ap (λ p. (known p).number) c.into_pass.ensures.pass ∙ at) in (
      one_more m c.loop-seat.passes.items c.push_reserved.new.self.items c.into_pass.result c.push_reserved.ensures.items inv.0 fit,
      omega (arith, all, less, longer),
      omega (arith, room, same),
      were_before m n c.loop-seat.players.items c.pop.new.self.items c.in-Some.seat last inv.3,
    )
