use Rattle.std.proofs.Common.{◌≡◌, ℕ, ◌<◌, length, map}
use Rattle.aio_model.specs.Scripts.LoopActs.{acts_of}
use Rattle.bell_loop.specs.Entering.{acts_at}
use Rattle.bell_loop.proofs.listed.lists_of.Given as goal

abbrev pub invariant-loop-bh : goal.invariant-loop-bh
invariant-loop-bh l =
    (length l.lists.items ≡ l.bh)
    × ((k : ℕ) → k < l.bh → acts_at (map (λ list. list.items) l.lists.items) k ≡ acts_of l.acts k)
