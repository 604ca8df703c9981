-- What a close answers.
use Rattle.co_schedule.specs.declared.ends.CoClosed.{CoClosed}
use Rattle.co_schedule.specs.declared.ends.CoClosed.TheVariants.{Ended, Left}
use Rattle.co_schedule.specs.Known.{Known}
use Rattle.co_schedule.specs.Calls.{TableState, Ends, IsLeftOver}

-- the whole history, where no coroutine is left; else the least that is
abbrev pub ClosesAs : {C O : Type 0} → TableState O → Known → Known → CoClosed C O → Type 0
ClosesAs table home seat (Ended end) = Ends table home seat end
ClosesAs table home seat (Left c built) =
    IsLeftOver c table home seat built.table built.home built.seat
