use Rattle.img_shared.proofs.Counting.{IsCounted-placed}
use Rattle.img_shared.proofs.journal.Ledger.entries.Goals as goal

pub returns-clause-placed : goal.returns-clause-placed
returns-clause-placed g c = rw (← c.self.view_is) (IsCounted-placed c.self.invariant)
