use Rattle.std.proofs.Common.{◌≡◌, ◌≤◌, vec_len, vec_capacity, drop}
use Rattle.loop_threads.specs.Hands.{AreNewHands}
use Rattle.loop_threads.proofs.hands.new_hands.Given as goal

abbrev pub ghost-new_hand : goal.ghost-new_hand
ghost-new_hand g a = g.origin

abbrev pub invariant-loop-own : goal.invariant-loop-own
invariant-loop-own g l =
    (vec_len l.hands ≡ l.own)
    × (vec_len l.fn.clocks ≤ vec_capacity l.hands)
    × (l.clocks.items ≡ drop l.own l.fn.clocks.items)
    × AreNewHands l.own l.coroutines g.origin l.fn.clocks.items l.hands.items
