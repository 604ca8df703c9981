use Rattle.std.proofs.Common.{◌≡◌, ◌<◌, true, ℕ, slice_index_or}
use Rattle.loop_threads.specs.declared.parts.Part.{Part}
use Rattle.loop_threads.proofs.carrying.are_carried.Given as goal

abbrev pub invariant-loop-part : goal.invariant-loop-part
invariant-loop-part g l =
    (k : ℕ) (p : Part _ _ _) → k < l.part-index → (slice_index_or l.parts k p).carried ≡ true
