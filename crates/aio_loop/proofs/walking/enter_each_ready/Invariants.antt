use Rattle.std.proofs.Common.{IsTrue}
use Rattle.aio_model.specs.Loop.Legal.{IsLegal}
use Rattle.aio_loop.specs.Homes.{IsHomeFree}
use Rattle.aio_loop.specs.Walks.{loop_far}
use Rattle.aio_loop.proofs.TurnParts.{ReadySoFar}
use Rattle.aio_loop.proofs.walking.enter_each_ready.Given as goal

abbrev pub invariant-loop : goal.invariant-loop
invariant-loop g l =
    (goal.iterator-loop g).can_next l.iterator' × (goal.iterator-loop g).is_finite l.iterator' × g.R.LoopRunner.can_run l.runner l.table.sizes l.side.timers.made × IsHomeFree l.table l.home.seat × IsLegal l.table.sizes l.home.seat.known.seen × IsTrue l.side.handlers.walking × ReadySoFar g.R.LoopRunner.does l.table.sizes.events l.called (loop_far l.fn.home.seat.known l.fn.side l.fn.runner) (loop_far l.home.seat.known l.side l.runner)
