use Rattle.co_mutex.proofs.Finishing.{look_none, look_took}
use Rattle.co_mutex.proofs.lock.CoMutex.take_duty.Goals as goal

pub returns-then-number-eq0-clause-looked : goal.returns-then-number-eq0-clause-looked
returns-then-number-eq0-clause-looked g c =
    look_none c.args.pass.now.seat.me.0 c.load_handoff-number.new.pass.seat.me c.load_handoff-number.result c.load_handoff-number.ensures.step c.if-number-eq0.true

pub returns-clause-looked : goal.returns-clause-looked
returns-clause-looked g c =
    look_took c.args.pass.now.seat.me.0 c.load_handoff-number.new.pass.seat.me c.load_handoff-number.result c.load_handoff-number.ensures.step c.if-number-eq0.false c.take_handoff.new.pass.seat.me c.take_handoff.result c.take_handoff.ensures.step
