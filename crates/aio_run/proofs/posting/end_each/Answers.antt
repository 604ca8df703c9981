use Rattle.std.proofs.Common.{◌∙◌, refl, arith}
use Rattle.aio_run.proofs.FoundSet.{one_more_set}
use Rattle.aio_run.proofs.posting.end_each.Goals as goal

pub loop-to-init : goal.loop-to-init
loop-to-init g c =
    (c.requires.row.0, c.requires.row.1, (λ k s. refl), (λ t s low. absurd (omega (arith, low))))

pub loop-to-preserved : goal.loop-to-preserved
loop-to-preserved g c =
    let was = c.loop-to.invariant in
    let row = c.set_event.ensures.row in (
      row.0,
      record { first_is = row.1.first_is ∙ was.1.first_is; count_is = row.1.count_is ∙ was.1.count_is },
      (λ k s. c.set_event.ensures.coroutines k s ∙ was.2 k s),
      one_more_set c.loop-to.to c.loop-to.row.seats.items c.set_event.new.self.seats.items was.3 c.set_event.ensures.others c.set_event.ensures.sets,
    )
