use Rattle.std.proofs.Common.{◌≡◌, drop}
use Rattle.aio_chain.specs.LinkList.{next_after}
use Rattle.plain_tests.proofs.SlowLists.{found_in}
use Rattle.plain_tests.proofs.slow_lists.next_after.Given as goal

abbrev pub invariant-loop-item : goal.invariant-loop-item
invariant-loop-item l = next_after l.i l.items ≡ found_in l.is_found l.i (drop l.item-index l.items)
