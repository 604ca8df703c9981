use Rattle.std.proofs.Common.{◌∙◌, sym}
use Rattle.co_waits.proofs.Queues.{first_gone}
use Rattle.co_waits.proofs.queue.CoQueue.next.Goals as goal

pub returns-clause-items : goal.returns-clause-items
returns-clause-items c =
    rw (← c.self.view_is) (c.unlink.ensures.items ∙ first_gone c.in_ok-who.who c.self.inside.waiters.items (sym c.in_ok-who.ensures.first) c.in_ok-who.ensures.linked.each_once)
