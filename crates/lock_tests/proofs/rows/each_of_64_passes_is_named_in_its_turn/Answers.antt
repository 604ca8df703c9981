use Rattle.std.proofs.Common.{sym, subst}
use Rattle.lock_tests.specs.Crews.{ArePlayersOf}
use Rattle.lock_tests.proofs.rows.each_of_64_passes_is_named_in_its_turn.Goals as goal

pub all_queue-requires : goal.all_queue-requires
all_queue-requires g c =
    record { each = subst (λ n. ArePlayersOf c.built-lock.result.0 n c.dealt-players.result.items) (sym c.dealt-players.ensures.count) c.dealt-players.ensures.each }
