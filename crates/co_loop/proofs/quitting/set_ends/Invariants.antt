use Rattle.co_loop.specs.Rows.{AreSeatsOfLoops}
use Rattle.co_loop.specs.Quits.{SetsEnds}
use Rattle.co_loop.proofs.quitting.set_ends.Given as goal

abbrev pub invariant-loop-at : goal.invariant-loop-at
invariant-loop-at g l =
    AreSeatsOfLoops l.coroutines l.shared l.seats.items × SetsEnds l.at l.fn.seats.items l.seats.items
