use Rattle.std.proofs.Common.{[], ◌∷◌}
use Rattle.aio_model.specs.Loop.History.{Cancel}
use Rattle.aio_bh.proofs.GivingBack.{SeatComesBack-canceled}
use Rattle.bh_tests.proofs.enqueues.Notes.act.Goals as goal

pub returns-in-Some-cancels-clause-back : goal.returns-in-Some-cancels-clause-back
returns-in-Some-cancels-clause-back g c =
    let bh = c.in-Some-cancels.bh in
    let before = c.args.seat.now.known in (
      Cancel bh before.first c.cancel.result ∷ [],
      SeatComesBack-canceled bh c.cancel.result before c.cancel.new.seat.known c.requires.some c.requires.rest c.cancel.ensures.step,
    )
