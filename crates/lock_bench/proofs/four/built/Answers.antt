use Rattle.co_mutex.proofs.Decks.{new_rest}
use Rattle.lock_bench.proofs.four.built.Goals as goal

pub returns-in-Ok : goal.returns-in-Ok
returns-in-Ok c =
    (c.in-Ok.ensures.built.1, c.in-Ok.ensures.passes.0, λ k p at. new_rest c.in-Ok.built.0 k p (c.in-Ok.ensures.passes.1 k p at))
