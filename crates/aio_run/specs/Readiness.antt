-- What a run of a script begins with.
use Rattle.std.specs.Prelude.{◌≡◌, ℕ, ◌<◌, ◌≤◌, max, false, List, [], None, length, replicate, slice_index_or, vec_len, vec_capacity}
use Rattle.aio_model.specs.declared.scripts.image_scripts.Script.{Script}
use Rattle.co_loop.specs.declared.working.CoWork.{CoWork}
use Rattle.co_loop.specs.Rows.{AreOfOrigin}
use Rattle.co_mutex.specs.declared.lock.CoMutex.{CoMutex}
use Rattle.co_schedule.specs.Calls.{new_known}
use Rattle.img_shared.specs.Images.{ImageState}
use Rattle.img_shared.specs.Notes.{Note}
use Rattle.loop_rows.specs.declared.shared.LoopShared.{LoopShared}
use Rattle.loop_rows.specs.declared.opening.Homes.{Homes}
use Rattle.loop_rows.specs.LoopStates.{LoopState}
use Rattle.loop_rows.specs.Opening.{AreNewLoops, HomesEach}
use Rattle.loop_rows.specs.Rows.{IsRow, HasNumbers}
use Rattle.loop_threads.specs.declared.hands.Hand.{Hand}
use Rattle.loop_threads.specs.Reserving.{IsReserved}
use Rattle.loop_threads.specs.Running.{CanBeginEach}
use Rattle.stream_ends.specs.Images.{IsLockFor, homes_of}
use Rattle.stream_ends.specs.Starts.{IsEndRoom}
use Rattle.aio_run.specs.declared.opening.Loops.{Loops}
use Rattle.aio_run.specs.declared.preparing.Prepared.{Prepared}
use Rattle.aio_run.specs.Posting.{HaveBegun, HaveCoroutines, AllHaveOwn, HaveSizes}

-- how many coroutines the tables of a script's loops are made for
abbrev pub coroutines_of : Script → ℕ
coroutines_of script = max 1 (length script.streams)

-- no home has entered any coroutine
abbrev pub HaveEntered : {C O : Type 0} → ℕ → ℕ → List (Homes C O) → Type 0
HaveEntered {C} {O} loops coroutines homes =
    (k : ℕ) (h : Homes C O) → k < loops → (slice_index_or homes k h).coroutines.known ≡ new_known coroutines 64 1

-- on none of them event 0 was found set, has a coroutine asked that the loops end, or is one kept for another loop
abbrev pub AreQuiet : {C K O : Type 0} → ℕ → List (Hand (CoWork C K O)) → Type 0
AreQuiet {C} {K} {O} loops hands =
    (k : ℕ) (d : Hand (CoWork C K O)) → k < loops
    → ((slice_index_or hands k d).work.is_ended ≡ false)
    × ((slice_index_or hands k d).work.crew.quits ≡ false)
    × ((co : ℕ) → slice_index_or (slice_index_or hands k d).work.crew.leaving.items co None ≡ None)

module _ {C K O : Type 0} (can_work : CoWork C K O → List (LoopShared C O) → LoopState C O → Type 0) where
  -- what is to be done on each loop can begin and is quiet, and there is room for a run, for all streams that end, and for the ends of the loops
  pub record HaveHands (script : Script) (loops : Loops C K O) : Type 0 where
    pub hands : vec_len loops.hands ≡ script.loops
    pub begin : CanBeginEach can_work loops.opened.shared.items loops.opened.homes.items loops.hands.items
    pub quiet : AreQuiet script.loops loops.hands.items
    pub reserved : IsReserved script.loops loops.reserved
    pub berths : loops.berths.items ≡ replicate (length script.streams) None
    pub streams : (loops.streams.items ≡ []) × (length script.streams ≤ vec_capacity loops.streams)
    pub ends : (loops.ends.items ≡ []) × (script.loops ≤ vec_capacity loops.ends)

  -- the loops of the script are new, with nobody on them
  pub record AreOpen (script : Script) (origin : O) (loops : Loops C K O) : Type 0 where
    pub tables : AreNewLoops script.loops (coroutines_of script) origin loops.opened
    pub rest : HaveHands script loops

  -- The row of all numbers has posted each stream's coroutine to its home, and made nothing else on the tables of coroutines; no home
  -- has entered any.
  pub record ArePosted (script : Script) (origin : O) (loops : Loops C K O) : Type 0 where
    pub long : length loops.opened.shared.items ≡ script.loops
    pub homes_long : length loops.opened.homes.items ≡ script.loops
    pub of : AreOfOrigin origin loops.opened.shared.items
    pub tables : HaveCoroutines (coroutines_of script) loops.opened.shared.items
    pub sized : HaveSizes loops.opened.shared.items
    pub homes_each : HomesEach script.loops loops.opened.shared.items loops.opened.homes.items
    pub none_entered : HaveEntered script.loops (coroutines_of script) loops.opened.homes.items
    pub is_row : IsRow loops.opened.shared.items loops.opened.row
    pub numbers : HasNumbers 0 64 loops.opened.row
    pub begun : HaveBegun (length script.streams) (homes_of script.streams) script.loops loops.opened.row.seats.items
    pub own : AllHaveOwn script.loops loops.opened.row.seats.items
    pub rest : HaveHands script loops

  -- the device lies behind the lock, and each stream's coroutine is posted
  pub record HasPostedAll {P D : Type 0} (script : Script) (source : CoMutex P (ImageState D) (Note D) → O) (ready : Prepared P C K (ImageState D) (Note D) O) : Type 0 where
    pub lock : IsLockFor script ready.lock
    pub room : IsEndRoom script ready.lock ready.room
    pub posted : ArePosted script (source ready.lock) ready.loops
