use Rattle.std.proofs.Common.{subst, rules}
use Rattle.aio_chain.specs.LinkList.{LinkList}
use Rattle.co_waits.proofs.Queues.{TakesAll, takes_none, takes_more, takes_fewer}
use Rattle.co_waits.proofs.queue.CoQueue.all.Goals as goal

pub loop-first-init : goal.loop-first-init
loop-first-init c =
    subst (λ (list : LinkList). TakesAll list c.self.inside.waiters c.first-first.result 0 c.args.out.now c.args.out.now) c.self.view_is
    (takes_none c.self.inside.waiters c.first-first.result c.args.out.now c.first-first.ensures.linked c.first-first.ensures.first (rw (← c.self.view_is) at c.requires) (search rules))

pub loop-first-smaller : goal.loop-first-smaller
loop-first-smaller c =
    takes_fewer c.args.self.now c.loop-first.self-inside.waiters c.unlink.new.self c.loop-first.first c.in-Some.waiter c.loop-first.taken c.args.out.now c.loop-first.out c.loop-first.invariant c.in-Some.is c.unlink.ensures.items

pub loop-first-preserved : goal.loop-first-preserved
loop-first-preserved c =
    takes_more c.args.self.now c.loop-first.self-inside.waiters c.unlink.new.self c.loop-first.first c.first-first-in-Some.result c.in-Some.waiter c.loop-first.taken c.args.out.now c.loop-first.out c.loop-first.invariant c.in-Some.is c.unlink.ensures.items c.unlink.ensures.room c.first-first-in-Some.ensures.first c.first-first-in-Some.ensures.linked
