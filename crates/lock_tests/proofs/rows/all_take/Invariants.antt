use Rattle.std.proofs.Common.{◌≡◌, vec_len}
use Rattle.lock_tests.specs.Crews.{ArePlayersOf}
use Rattle.lock_tests.proofs.rows.all_take.Given as goal

abbrev pub invariant-loop-next : goal.invariant-loop-next
invariant-loop-next g l =
    ArePlayersOf l.lock (vec_len l.players) l.players.items × (vec_len l.players ≡ vec_len l.fn.players)
