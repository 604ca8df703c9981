use Rattle.std.proofs.Common.{◌≡◌, ℕ, ◌+◌, ◌-◌, ◌*◌, ◌<◌, length, vec_len, vec_capacity, slice_index_or}
use Rattle.loop_threads.specs.declared.parts.Part.{Part}
use Rattle.loop_threads.specs.declared.members.Member.{Member}
use Rattle.loop_rows.specs.Rows.{IsRow, HasNumbers}
use Rattle.loop_threads.specs.Members.{IsOfPart, MembersEach}
use Rattle.loop_threads.specs.Within.{OwnEach, RowWithin, RowsWithin}
use Rattle.loop_threads.proofs.members.join_all.Given as goal

abbrev pub invariant-loop-part : goal.invariant-loop-part
invariant-loop-part g l =
    let done = vec_len l.members in
    (vec_len l.parts + done ≡ length l.shared)
    × (vec_capacity l.members ≡ vec_capacity l.fn.members)
    × ((k : ℕ) (p : Part _ _ _) → k < vec_len l.parts → slice_index_or l.parts.items k p ≡ slice_index_or l.fn.parts.items k p)
    × IsRow l.shared l.row
    × HasNumbers 0 ((64 - 2 * length l.shared) + 2 * done) l.row
    × MembersEach done l.shared l.members.items
    × (0 < done → OwnEach (length l.shared) l.row.seats.items)
    × RowsWithin (vec_len l.parts) (length l.shared) (length l.shared) l.fn.parts.items l.row.seats.items
    × ((k j : ℕ) (p : Part _ _ _) (m : Member _ _ _) → k + j + 1 ≡ length l.shared → k < done → IsOfPart (slice_index_or l.fn.parts.items j p) (slice_index_or l.members.items k m))
    × (done ≡ 0 → l.row ≡ l.fn.mine)
    × (0 < done → RowWithin (length l.shared) l.fn.mine.seats.items l.row.seats.items)

abbrev pub decreases-loop-part : goal.decreases-loop-part
decreases-loop-part g l = vec_len l.parts
