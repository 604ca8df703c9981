use Rattle.std.proofs.Common.{◌≡◌, vec_len, vec_capacity}
use Rattle.co_loop.specs.Working.{CanWork, Works}
use Rattle.loop_threads.specs.Parts.{AllComeFrom}
use Rattle.loop_threads.proofs.carrying.carry_left.Given as goal

abbrev pub invariant-loop : goal.invariant-loop
invariant-loop g l =
    (vec_len l.left ≡ vec_len l.fn.left)
    × (vec_capacity l.left ≡ vec_capacity l.fn.left)
    × (vec_len l.other ≡ 0)
    × (vec_capacity l.other ≡ vec_capacity l.fn.other)
    × AllComeFrom (CanWork g.C.Origin.is_of) (Works g.row.E.Denot g.row.R.Denot g.C.Origin.is_of g.C.Co.resumes g.K.Clock.time) l.shared (vec_len l.fn.left) l.fn.left.items l.left.items
