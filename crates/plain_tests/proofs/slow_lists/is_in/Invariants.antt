use Rattle.std.proofs.Common.{◌≡◌, drop}
use Rattle.aio_chain.specs.LinkList.{contains}
use Rattle.plain_tests.proofs.slow_lists.is_in.Given as goal

abbrev pub invariant-loop-item : goal.invariant-loop-item
invariant-loop-item l = contains l.i l.items ≡ contains l.i (drop l.item-index l.items)
