use Rattle.std.proofs.Common.{sym, subst}
use Rattle.lock_tests.specs.Crews.{ArePlayersOf}
use Rattle.lock_tests.proofs.rows.after_rows.Goals as goal

pub play_all-requires : goal.play_all-requires
play_all-requires g c =
    record { each = subst (λ n. ArePlayersOf c.built-lock.result.0 n c.dealt-players.result.items) (sym c.dealt-players.ensures.count) c.dealt-players.ensures.each }
