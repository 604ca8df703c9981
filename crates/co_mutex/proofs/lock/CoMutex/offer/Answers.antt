use Rattle.std.proofs.Common.{ap}
use Rattle.co_mutex.proofs.Codes.{M}
use Rattle.co_mutex.proofs.Offering.{offered_none, offered_back}
use Rattle.co_mutex.proofs.lock.CoMutex.offer.Goals as goal

pub returns-then-look_again-eq0-clause-offered : goal.returns-then-look_again-eq0-clause-offered
returns-then-look_again-eq0-clause-offered g c =
    offered_none c.args.pass.now.seat.me.0 c.put_list.new.pass.seat.me c.store_number.new.pass.seat.me c.look_again.new.pass.seat.me c.next_number-number.result c.look_again.result c.next_number-number.ensures.some (ap (λ (z : M g.row.P-Value.Denot). z.0) c.put_list.ensures.list) c.store_number.ensures.step c.look_again.ensures.step c.if-look_again-eq0.true

pub returns-clause-offered : goal.returns-clause-offered
returns-clause-offered g c =
    offered_back c.args.pass.now.seat.me.0 c.put_list.new.pass.seat.me c.store_number.new.pass.seat.me c.look_again.new.pass.seat.me c.next_number-number.result c.look_again.result c.next_number-number.ensures.some (ap (λ (z : M g.row.P-Value.Denot). z.0) c.put_list.ensures.list) c.store_number.ensures.step c.look_again.ensures.step c.if-look_again-eq0.false c.take_back.new.pass.seat.me c.take_back.result c.take_back.ensures.step
