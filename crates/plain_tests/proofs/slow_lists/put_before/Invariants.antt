use Rattle.std.proofs.Common.{◌≡◌, ◌++◌, drop}
use Rattle.aio_chain.specs.LinkList.{put_before}
use Rattle.plain_tests.proofs.SlowLists.{put_unless}
use Rattle.plain_tests.proofs.slow_lists.put_before.Given as goal

abbrev pub invariant-loop-item : goal.invariant-loop-item
invariant-loop-item l = l.more.items ++ put_unless l.is_put l.at l.i (drop l.item-index l.items) ≡ put_before l.at l.i l.items
