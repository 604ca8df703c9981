use Rattle.std.proofs.Common.{◌≡◌, ◌++◌, length, drop, vec_capacity}
use Rattle.img_join.specs.Placing.{HaveAll, placed_from}
use Rattle.img_join.proofs.placing.place_all.Given as goal

-- what was placed, and then the rest, is the whole
abbrev pub invariant-loop-entry : goal.invariant-loop-entry
invariant-loop-entry g l =
    HaveAll l.ids (drop l.entry-index l.entries) l.buffers
    × (l.served.items ++ placed_from l.ids (drop l.entry-index l.entries) l.buffers ≡ placed_from l.ids l.entries l.initial.buffers)
    × (length l.served.items ≡ l.entry-index)
    × (vec_capacity l.served ≡ vec_capacity l.initial.served)
