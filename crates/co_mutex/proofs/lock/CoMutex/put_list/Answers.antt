use Rattle.co_mutex.specs.declared.slot.Slot.TheVariants.{Out}
use Rattle.co_mutex.proofs.Codes.{in_hand}
use Rattle.co_mutex.proofs.lock.CoMutex.put_list.Goals as goal

pub exchange-out-requires : goal.exchange-out-requires
exchange-out-requires g c =
    (c.requires.pass.table, in_hand c.args.pass.now.seat.me 1 Out c.requires.out)
