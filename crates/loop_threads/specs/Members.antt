-- Loops that no thread carries now.
use Rattle.std.specs.Prelude.{◌≡◌, ℕ, ◌<◌, ◌+◌, List, slice_index_or}
use Rattle.aio_bh.specs.OneShots.{ServesHome}
use Rattle.aio_loop.specs.Homes.{IsHomeFree}
use Rattle.co_schedule.specs.Calls.{IsSeatOf as IsCoSeatOf}
use Rattle.loop_rows.specs.declared.shared.LoopShared.{LoopShared}
use Rattle.loop_threads.specs.declared.parts.Part.{Part}
use Rattle.loop_threads.specs.declared.members.Member.{Member}

-- it has all of the part but number and row
pub record IsOfPart {C W O : Type 0} (part : Part C W O) (member : Member C W O) : Type 0 where
  pub home_is : member.home ≡ part.home
  pub side_is : member.side ≡ part.side
  pub lots_are : member.lot_pass ≡ part.lot_pass
  pub coroutines_are : member.coroutines ≡ part.coroutines
  pub work_is : member.work ≡ part.work

-- the first is that of the last of so many parts, and so on
abbrev pub AreOfParts : {C W O : Type 0} → ℕ → List (Part C W O) → List (Member C W O) → Type 0
AreOfParts {C} {W} {O} n parts members =
    (k j : ℕ) (p : Part C W O) (m : Member C W O) → k + j + 1 ≡ n → IsOfPart (slice_index_or parts j p) (slice_index_or members k m)

-- its homes are those of this loop, between two turns
pub record IsMemberOf {C W O : Type 0} (shared : LoopShared C O) (member : Member C W O) : Type 0 where
  pub home : IsHomeFree shared.bottoms member.home.seat
  pub lots : ServesHome shared.bottoms.sizes shared.pool member.lot_pass
  pub coroutines : IsCoSeatOf shared.coroutines member.coroutines

abbrev pub MembersEach : {C W O : Type 0} → ℕ → List (LoopShared C O) → List (Member C W O) → Type 0
MembersEach {C} {W} {O} n shared members =
    (k : ℕ) (t : LoopShared C O) (m : Member C W O) → k < n → IsMemberOf (slice_index_or shared k t) (slice_index_or members k m)
