use Rattle.aio_bh.proofs.Turning.{takes_next}
use Rattle.aio_bh.proofs.frames.next.Goals as goal

pub returns-clause-next : goal.returns-clause-next
returns-clause-next g c =
    let home = c.args.home.now in
    let next = c.in_ok-next.next in
    takes_next g.J.Job.number_of next.bh next.flags next.job home.seat.known c.dequeue_next.new.home.seat.known c.args.polled.now c.note_dequeue.new.self home.number.0 home.number.1 c.in_ok-next.ensures.steps c.note_dequeue.ensures
