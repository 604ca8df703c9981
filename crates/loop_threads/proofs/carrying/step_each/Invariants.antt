use Rattle.std.proofs.Common.{◌≡◌, ◌<◌, ◌+◌, ℕ, vec_len, vec_capacity, slice_index_or}
use Rattle.co_loop.specs.Working.{CanWork, Works}
use Rattle.loop_threads.specs.declared.parts.Part.{Part}
use Rattle.loop_threads.specs.Parts.{ComesFrom}
use Rattle.loop_threads.proofs.carrying.step_each.Given as goal

abbrev pub invariant-loop-part : goal.invariant-loop-part
invariant-loop-part g l =
    (vec_len l.from + vec_len l.to ≡ vec_len l.fn.from)
    × (vec_capacity l.from ≡ vec_capacity l.fn.from)
    × (vec_capacity l.to ≡ vec_capacity l.fn.to)
    × ((k : ℕ) (p : Part _ _ _) → k < vec_len l.from → slice_index_or l.from.items k p ≡ slice_index_or l.fn.from.items k p)
    × ((k j : ℕ) (p q : Part _ _ _) → k + j + 1 ≡ vec_len l.fn.from → j < vec_len l.to → ComesFrom (CanWork g.C.Origin.is_of) (Works g.row.E.Denot g.row.R.Denot g.C.Origin.is_of g.C.Co.resumes g.K.Clock.time) l.shared (slice_index_or l.fn.from.items k p) (slice_index_or l.to.items j q))

abbrev pub decreases-loop-part : goal.decreases-loop-part
decreases-loop-part g l = vec_len l.from
