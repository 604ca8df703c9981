use Rattle.std.proofs.Common.{◌≡◌, vec_len}
use Rattle.lock_tests.specs.Crews.{ArePlayersOf}
use Rattle.lock_tests.proofs.rows.all_queue.Given as goal

abbrev pub invariant-loop-number : goal.invariant-loop-number
invariant-loop-number g l =
    ArePlayersOf l.lock (vec_len l.players) l.players.items × (vec_len l.players ≡ vec_len l.fn.players)
