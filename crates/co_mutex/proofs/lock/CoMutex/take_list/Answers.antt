use Rattle.co_mutex.specs.declared.slot.Slot.TheVariants.{Waiters}
use Rattle.co_mutex.proofs.Codes.{in_hand}
use Rattle.co_mutex.proofs.lock.CoMutex.take_list.Goals as goal

pub exchange-there-requires : goal.exchange-there-requires
exchange-there-requires g c =
    (c.requires.pass.table, in_hand c.args.pass.now.seat.me 1 (Waiters c.requires.list.0) c.requires.list.1)
