use Rattle.std.proofs.Common.{rules, ◌≡◌, ◌∙◌, ap, arith, vec_len, drop}
use Rattle.std.proofs.lemmas.List.{drop-drop}
use Rattle.loop_threads.proofs.Starting.{one_hand_more, hands_begin}
use Rattle.loop_threads.proofs.hands.new_hands.Goals as goal

pub loop-own-preserved : goal.loop-own-preserved
loop-own-preserved g c =
    let was = c.loop-own.invariant in
    let pushed = c.push_reserved.ensures in
    let left = c.remove-clock.ensures in (
      omega (arith, was.0, pushed.len),
      omega (arith, was.1, pushed.capacity),
      (left.by_index.2 ∙ ap (drop 1) was.2 ∙ drop-drop 1 c.loop-own.own c.args.clocks.items),
      one_hand_more c.args.coroutines g.origin c.args.clocks.items c.loop-own.clocks.items c.loop-own.hands.items c.push_reserved.new.self.items c.loop-own.own c.remove-clock.result c.in_ok-hand.hand (omega (arith, was.0, c.loop-own.hands.ok.0)) was.2 (omega (arith, c.loop-own-test.true, c.len-own-end.ensures, c.args.clocks.ok.0)) left.value pushed.items was.3 c.in_ok-hand.ensures,
    )

pub returns-clause-begins : goal.returns-clause-begins
returns-clause-begins g c shared homes seats long each =
    let was = c.loop-own.invariant in
    let n : c.loop-own.own ≡ vec_len c.args.clocks = search rules in
    hands_begin c.args.coroutines g.origin shared homes seats g.C.Origin.is_of (vec_len c.args.clocks) c.args.clocks.items c.loop-own.hands.items (λ k x d lt. was.3 k x d (omega (arith, lt, n))) long each
