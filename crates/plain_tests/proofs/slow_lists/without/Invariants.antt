use Rattle.std.proofs.Common.{◌≡◌, ◌++◌, drop}
use Rattle.aio_chain.specs.LinkList.{without}
use Rattle.plain_tests.proofs.slow_lists.without.Given as goal

abbrev pub invariant-loop-item : goal.invariant-loop-item
invariant-loop-item l = l.fewer.items ++ without l.i (drop l.item-index l.items) ≡ without l.i l.items
