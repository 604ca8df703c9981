use Rattle.co_mutex.proofs.Decks.{new_rest}
use Rattle.lock_tests.proofs.closing.built.Goals as goal

pub returns-clause-each : goal.returns-clause-each
returns-clause-each g c k p at =
    new_rest c.in-Ok.built.0 k p (c.in-Ok.ensures.passes.1 k p at)
