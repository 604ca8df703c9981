use Rattle.std.proofs.Common.{◌≡◌, ap, ◌∙◌, subst, arith}
use Rattle.aio_model.specs.Loop.History.{Sizes, Free}
use Rattle.aio_model.specs.Loop.Legal.{MayFollow}
use Rattle.aio_core.proofs.OneShots.{may_free-lot}
use Rattle.table_tests.proofs.calls.dequeue_and_free.Goals as goal

pub free-requires-clause-done : goal.free-requires-clause-done
free-requires-clause-done c =
    let v = c.args.home.now.seat.known in
    let sizes : v.sizes ≡ c.args.table.now.sizes = c.requires.seat.sizes in
    let handles : v.sizes.handles ≡ 0 = ap (λ (z : Sizes). z.handles) sizes ∙ c.requires.lots in
    subst (λ z. MayFollow z (Free c.in_ok-next.next.bh) c.dequeue_next.new.home.seat.known.seen) sizes (may_free-lot _ _ _ v c.dequeue_next.new.home.seat.known (omega arith) c.in_ok-next.ensures.steps)
