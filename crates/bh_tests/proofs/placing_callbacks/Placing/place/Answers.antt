use Rattle.std.proofs.Common.{sym, subst}
use Rattle.aio_model.specs.Loop.Legal.{IsLegal}
use Rattle.aio_bh.proofs.Lent.{SeatComesBack-tried}
use Rattle.bh_tests.proofs.placing_callbacks.Placing.place.Goals as goal

pub returns-clause-back : goal.returns-clause-back
returns-clause-back g c =
    let before = c.args.seat.now.known in
    let legal : IsLegal before.sizes before.seen = subst (λ s. IsLegal s before.seen) (sym c.requires.seat.sizes) c.requires.legal in
    SeatComesBack-tried c.once-placed.result _ _ _ before _ _ c.requires.rest c.once-placed.ensures.seat.rest legal c.once-placed.ensures.placed
