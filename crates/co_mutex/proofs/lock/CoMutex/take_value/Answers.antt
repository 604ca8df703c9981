use Rattle.co_mutex.specs.declared.slot.Slot.TheVariants.{Value}
use Rattle.co_mutex.proofs.Codes.{in_hand}
use Rattle.co_mutex.proofs.lock.CoMutex.take_value.Goals as goal

pub exchange-there-requires : goal.exchange-there-requires
exchange-there-requires g c =
    (c.requires.pass.table, in_hand c.args.pass.now.seat.me 0 (Value c.requires.value.0) c.requires.value.1)
