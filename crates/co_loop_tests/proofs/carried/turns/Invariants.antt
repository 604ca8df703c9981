use Rattle.co_loop_tests.specs.Loops.{IsBetweenTurns}
use Rattle.co_loop_tests.proofs.carried.turns.Given as goal

abbrev pub invariant-loop : goal.invariant-loop
invariant-loop g l =
    let of = g.C.Origin.is_of in
    let source_of = g.C.Co.source_of in
    IsBetweenTurns of (source_of l.first.here.env.now) l.first.here.shared.now l.first.here.crew l.first.here.home l.first.here.run l.first.aio.table.now l.first.aio.pool.now l.first.aio.lot_pass l.first.aio.home.seat l.first.aio.side
    × IsBetweenTurns of (source_of l.second.here.env.now) l.second.here.shared.now l.second.here.crew l.second.here.home l.second.here.run l.second.aio.table.now l.second.aio.pool.now l.second.aio.lot_pass l.second.aio.home.seat l.second.aio.side
