use Rattle.std.proofs.Common.{◌≡◌, ◌<◌, ◌+◌, ℕ, List, length, vec_len, vec_capacity, slice_index_or}
use Rattle.co_loop.specs.Working.{CanWork}
use Rattle.loop_rows.specs.declared.opening.Homes.{Homes}
use Rattle.loop_threads.specs.declared.hands.Hand.{Hand}
use Rattle.loop_threads.specs.declared.parts.Part.{Part}
use Rattle.loop_rows.specs.declared.seats.Seats.{Seats}
use Rattle.loop_threads.specs.Dealing.{ArePairs, RowsSee}
use Rattle.loop_threads.specs.Parts.{IsLoopPart}
use Rattle.loop_threads.specs.Running.{BeginsRun, PartsSee}
use Rattle.loop_threads.proofs.preparing.deal_parts.Given as goal

abbrev pub invariant-loop-one : goal.invariant-loop-one
invariant-loop-one g l =
    let n = length l.shared in
    (vec_len l.hands ≡ vec_len l.homes)
    × (vec_len l.homes + vec_len l.parts ≡ n)
    × (vec_len l.pairs + vec_len l.parts ≡ 32)
    × (vec_capacity l.parts ≡ vec_capacity l.fn.parts)
    × ArePairs l.shared l.pairs.items
    × ((k : ℕ) (h : Homes _ _) → k < vec_len l.homes → slice_index_or l.homes.items k h ≡ slice_index_or l.fn.homes.items k h)
    × ((k : ℕ) (d : Hand _) → k < vec_len l.hands → slice_index_or l.hands.items k d ≡ slice_index_or l.fn.hands.items k d)
    × ((j : ℕ) (p : Part _ _ _) → j < vec_len l.parts → IsLoopPart (CanWork g.C.Origin.is_of) l.shared (slice_index_or l.parts.items j p) × ((slice_index_or l.parts.items j p).number + j + 1 ≡ n))
    × ((k j : ℕ) (h : Homes _ _) (d : Hand _) (p : Part _ _ _) → k + j + 1 ≡ n → j < vec_len l.parts → BeginsRun (slice_index_or l.fn.homes.items k h) (slice_index_or l.fn.hands.items k d) (slice_index_or l.parts.items j p))
    × ((whole : List (Seats _ _)) → RowsSee n whole l.fn.pairs.items → RowsSee n whole l.pairs.items × PartsSee (vec_len l.parts) n whole l.parts.items)

abbrev pub decreases-loop-one : goal.decreases-loop-one
decreases-loop-one g l = vec_len l.homes
