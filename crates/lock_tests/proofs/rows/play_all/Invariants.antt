use Rattle.std.proofs.Common.{◌≡◌, vec_len}
use Rattle.lock_tests.specs.Crews.{ArePlayersOf}
use Rattle.lock_tests.proofs.rows.play_all.Given as goal

abbrev pub invariant-loop-row : goal.invariant-loop-row
invariant-loop-row g l =
    ArePlayersOf l.lock (vec_len l.players) l.players.items × (vec_len l.players ≡ vec_len l.fn.players)
