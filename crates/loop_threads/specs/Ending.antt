-- The end of a loop.
use Rattle.std.specs.Prelude.{◌≡◌, ℕ, ◌+◌, ◌<◌, ◌≤◌, None, true, Option, List, [], ◌∷◌, ◌++◌, slice_index_or, vec_len}
use Rattle.aio_model.specs.declared.loops.commits.Commit.TheVariants.{Sleep}
use Rattle.aio_core.specs.Scans.{SameButSleep}
use Rattle.aio_core.specs.Calls.{TableState, SeatState, IsSeatOf}
use Rattle.aio_notify.specs.Commits.{Commits}
use Rattle.aio_notify.specs.Settling.{is_committed, EndsQuiet}
use Rattle.co_schedule.specs.Calls.{Ends}
use Rattle.loop_rows.specs.declared.shared.LoopShared.{LoopShared}
use Rattle.loop_rows.specs.declared.seats.Seats.{Seats}
use Rattle.loop_threads.specs.declared.members.Member.{Member}
use Rattle.loop_threads.specs.declared.ending.LoopRun.{LoopRun}
use Rattle.loop_threads.specs.declared.ending.Rest.{Rest}
use Rattle.loop_threads.specs.declared.ending.Last.{Last}
use Rattle.loop_rows.specs.Rows.{AreSeatsOf, EachAt}
use Rattle.loop_threads.specs.Within.{IsSeenWithin, StandsIn, HaveOwn, OwnEach}
use Rattle.loop_threads.specs.Members.{IsMemberOf, MembersEach}

-- a commit that watches no event and has no deadline let home sleep
pub record FallsAsleep (table : TableState) (before after : SeatState) : Type 0 where
  pub of_table : IsSeatOf table after
  pub bound : Option ℕ
  pub commits : Commits 0 table.sizes.events None 0 (Sleep bound) before.known after.known
  pub same : SameButSleep before.known after.known
  pub committed : is_committed after.known.sleep ≡ true

-- what stands within the seats stands in both whole histories, whatever numbers below 64 it has
abbrev pub KeepsMade : {C W O : Type 0} → LoopShared C O → Seats C O → LoopRun C W O → Type 0
KeepsMade {C} {W} {O} shared seats run =
    (part : Seats C O) (first count : ℕ) → AreSeatsOf first count shared part → first + count ≤ 64 → IsSeenWithin part seats → StandsIn part run.calls.known.seen run.coroutines.history

-- Home fell asleep, took in all numbers, and found nothing pending and no event set; no coroutine is left in the list. Both histories
-- are whole: each of the two seats that were joined has seen a part of it, in which just its own entries stand under its numbers.
pub record EndsLoop {C W O : Type 0} (shared : LoopShared C O) (member : Member C W O) (seats : Seats C O) (run : LoopRun C W O) : Type 0 where
  pub asleep : SeatState
  pub sleeps : FallsAsleep shared.bottoms member.home.seat asleep
  pub table_is : run.calls.table ≡ shared.bottoms.table
  pub calls : EndsQuiet seats.bottoms.known asleep.known run.calls.known
  pub coroutines : Ends shared.coroutines member.coroutines.known seats.coroutines.known run.coroutines
  pub keeps : KeepsMade shared seats run
  pub side_is : run.side ≡ member.side
  pub lots_are : run.lot_pass ≡ member.lot_pass
  pub work_is : run.work ≡ member.work

abbrev pub EndsEach : {C W O : Type 0} → ℕ → List (LoopShared C O) → List (Member C W O) → List (Seats C O) → List (LoopRun C W O) → Type 0
EndsEach {C} {W} {O} n shared members seats runs =
    (k : ℕ) (t : LoopShared C O) (m : Member C W O) (s : Seats C O) (r : LoopRun C W O) → k < n → EndsLoop (slice_index_or shared k t) (slice_index_or members k m) (slice_index_or seats k s) (slice_index_or runs k r)

-- as many homes and seats as loops, each of its loop, and the seats have all numbers
pub record IsRest {C W O : Type 0} (rest : Rest C W O) : Type 0 where
  pub homes_long : vec_len rest.members ≡ vec_len rest.shared
  pub seats_long : vec_len rest.seats ≡ vec_len rest.shared
  pub members : MembersEach (vec_len rest.shared) rest.shared.items rest.members.items
  pub seats : EachAt (vec_len rest.shared) 0 64 rest.shared.items rest.seats.items
  pub own : OwnEach (vec_len rest.shared) rest.seats.items

-- the last of each was taken
pub record IsLast {C W O : Type 0} (before after : Rest C W O) (last : Last C W O) : Type 0 where
  pub shared_is : before.shared.items ≡ after.shared.items ++ last.shared ∷ []
  pub member_is : before.members.items ≡ after.members.items ++ last.member ∷ []
  pub seats_are : before.seats.items ≡ after.seats.items ++ last.seats ∷ []
  pub member : IsMemberOf last.shared last.member
  pub seats : AreSeatsOf 0 64 last.shared last.seats
  pub own : HaveOwn last.seats
