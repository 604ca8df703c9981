use Rattle.std.proofs.Common.{◌≡◌, ◌+◌, ◌≤◌, vec_len, vec_capacity}
use Rattle.co_mutex.specs.Decks.{AreResting}
use Rattle.lock_tests.specs.Crews.{ArePlayersOf}
use Rattle.lock_tests.proofs.crew.returned.Given as goal

abbrev pub invariant-loop-seat : goal.invariant-loop-seat
invariant-loop-seat g l =
    AreResting l.lock l.passes.items × (vec_len l.passes + vec_len l.players ≡ vec_len l.fn.players) × (vec_len l.fn.players ≤ vec_capacity l.passes) × ArePlayersOf l.lock (vec_len l.fn.players) l.players.items

abbrev pub decreases-loop-seat : goal.decreases-loop-seat
decreases-loop-seat g l = goal.left-loop-seat g l
