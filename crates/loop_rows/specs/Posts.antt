-- A post through the seats of a loop.
use Rattle.std.specs.Prelude.{◌≡◌, ◌≢◌, ℕ, Bool, Option, List, slice_index_or}
use Rattle.aio_model.specs.declared.coroutines.causes.Cause.{Cause}
use Rattle.co_schedule.specs.Words.{mark_at}
use Rattle.co_schedule.specs.Known.{MarkCompare}
use Rattle.co_schedule.specs.Standing.{Looks, IsMarkOf}
use Rattle.co_schedule.specs.Parcels.{IsStateOf}
use Rattle.co_schedule.specs.Calls.{IsSeatOf, HasScheduled}
use Rattle.co_schedule.specs.Posting.{SchedulesHandle}
use Rattle.loop_rows.specs.declared.shared.LoopShared.{LoopShared}
use Rattle.loop_rows.specs.declared.seats.Seats.{Seats}
use Rattle.aio_core.specs.Calls.{IsReady}

module _ {C O : Type 0} where
  -- the seats are of the loop's tables, and at rest
  pub record IsSeated (shared : LoopShared C O) (seats : Seats C O) : Type 0 where
    pub bottoms : IsReady shared.bottoms seats.bottoms
    pub coroutines : IsSeatOf shared.coroutines seats.coroutines

  -- the seats have the numbers that they had
  pub record SameNumbers (before after : Seats C O) : Type 0 where
    pub first : after.bottoms.known.first ≡ before.bottoms.known.first
    pub count : after.bottoms.known.count ≡ before.bottoms.known.count
    pub co_first : after.coroutines.known.first ≡ before.coroutines.known.first
    pub co_count : after.coroutines.known.count ≡ before.coroutines.known.count

  -- the state, if there is one, is of the origin of this loop's coroutines, as that number
  abbrev pub IsStateAt : (ℕ → C → O → Type 0) → List (LoopShared C O) → ℕ → ℕ → Option C → Type 0
  IsStateAt is_of shared to co state =
      (t : LoopShared C O) → IsStateOf is_of co (slice_index_or shared to t).coroutines.origin state

  -- the coroutine was scheduled, and then handle 0 of its loop
  pub record Posts (co : ℕ) (cause : Cause) (given : Bool) (before after : Seats C O) : Type 0 where
    pub scheduled : HasScheduled co cause given before.coroutines.known after.coroutines.known
    pub handle : SchedulesHandle before.bottoms.known after.bottoms.known

  -- the coroutine had a mark, since it was scheduled and not entered; nothing was changed
  pub record FindsMarked (co mark : ℕ) (before after : Seats C O) : Type 0 where
    pub marked : mark ≢ 0
    pub looks : Looks MarkCompare (mark_at co) mark before.coroutines.known after.coroutines.known
    pub place : IsMarkOf co mark before.coroutines.known
    pub same : after.bottoms ≡ before.bottoms

  -- this was done to the seats of one loop
  abbrev pub DoesAt : ℕ → (Seats C O → Seats C O → Type 0) → List (Seats C O) → List (Seats C O) → Type 0
  DoesAt to does before after =
      (b a : Seats C O) → does (slice_index_or before to b) (slice_index_or after to a)
