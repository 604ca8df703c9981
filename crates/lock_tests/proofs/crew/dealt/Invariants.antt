use Rattle.std.proofs.Common.{◌≡◌, ◌+◌, ◌≤◌, vec_len, vec_capacity}
use Rattle.co_mutex.specs.Decks.{AreResting}
use Rattle.lock_tests.specs.Crews.{ArePlayersOf}
use Rattle.lock_tests.proofs.crew.dealt.Given as goal

abbrev pub invariant-loop-pass : goal.invariant-loop-pass
invariant-loop-pass g l =
    AreResting l.lock l.passes.items × (vec_len l.passes + vec_len l.players ≡ vec_len l.fn.passes) × (vec_len l.fn.passes ≤ vec_capacity l.players) × ArePlayersOf l.lock (vec_len l.fn.passes) l.players.items

abbrev pub decreases-loop-pass : goal.decreases-loop-pass
decreases-loop-pass g l = goal.left-loop-pass g l
