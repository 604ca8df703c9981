use Rattle.std.proofs.Common.{◌≡◌, vec_len, vec_capacity}
use Rattle.co_loop.specs.Working.{CanWork, Works}
use Rattle.loop_threads.specs.Parts.{AllComeFrom}
use Rattle.loop_threads.proofs.carrying.quieten.Given as goal

abbrev pub invariant-loop : goal.invariant-loop
invariant-loop g l =
    (vec_len l.parts ≡ vec_len l.fn.parts)
    × (vec_len l.other ≡ 0)
    × (vec_capacity l.other ≡ vec_capacity l.fn.other)
    × AllComeFrom (CanWork g.C.Origin.is_of) (Works g.row.E.Denot g.row.R.Denot g.C.Origin.is_of g.C.Co.resumes g.K.Clock.time) l.shared (vec_len l.fn.parts) l.fn.parts.items l.parts.items
