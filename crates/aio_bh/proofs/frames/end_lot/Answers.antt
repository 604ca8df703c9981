use Rattle.aio_bh.proofs.Returning.{gives_freed}
use Rattle.aio_bh.proofs.frames.end_lot.Goals as goal

pub returns-clause-gives : goal.returns-clause-gives
returns-clause-gives g c =
    let a = c.args in
    gives_freed a.pool.now a.bh a.home.now.seat.known c.free.new.home.seat.known a.pass.now c.give_back.new.home c.free.ensures.step c.give_back.ensures.given
