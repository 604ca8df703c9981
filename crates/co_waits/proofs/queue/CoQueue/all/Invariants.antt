use Rattle.std.proofs.Common.{◌≡◌, ◌+◌, ◌++◌, length}
use Rattle.co_waits.proofs.Queues.{TakesAll}
use Rattle.co_waits.proofs.queue.CoQueue.all.Given as goal

abbrev pub invariant-loop-first : goal.invariant-loop-first
invariant-loop-first l = TakesAll l.fn.self l.self-inside.waiters l.first l.taken l.fn.out l.out

abbrev pub decreases-loop-first : goal.decreases-loop-first
decreases-loop-first l = length l.self-inside.waiters.items
