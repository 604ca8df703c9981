use Rattle.std.proofs.Common.{[], sym, subst}
use Rattle.aio_core.specs.Opening.{AreFirst}
use Rattle.aio_core.proofs.Opening.{opening_stands, opening_slots}
use Rattle.aio_core.proofs.table.LoopTable.build.Goals as goal

pub vacant-requires : goal.vacant-requires
vacant-requires g c =
    ([], opening_stands _ c.deref.result.now (subst (AreFirst _) (sym c.deref.ensures.value) c.in-Ok.ensures), opening_slots _ _)
