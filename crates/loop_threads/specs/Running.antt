-- A run of loops.
use Rattle.std.specs.Prelude.{◌≡◌, ℕ, ◌<◌, ◌≤◌, ◌+◌, ◌-◌, ◌*◌, IsFalse, Bool, false, List, length, slice_index_or, vec_len, vec_capacity}
use Rattle.loop_rows.specs.declared.shared.LoopShared.{LoopShared}
use Rattle.loop_rows.specs.declared.rows.Row.{Row}
use Rattle.loop_rows.specs.declared.seats.Seats.{Seats}
use Rattle.loop_threads.specs.Dealing.{RowSees}
use Rattle.loop_threads.specs.Within.{RowWithin}
use Rattle.loop_rows.specs.declared.opening.Homes.{Homes}
use Rattle.loop_threads.specs.declared.parts.Part.{Part}
use Rattle.loop_threads.specs.declared.members.Member.{Member}
use Rattle.loop_threads.specs.declared.hands.Hand.{Hand}
use Rattle.loop_threads.specs.declared.preparing.Prepared.{Prepared}
use Rattle.loop_rows.specs.LoopStates.{LoopState, IsStation}
use Rattle.loop_rows.specs.Rows.{IsRow, HasNumbers}
use Rattle.loop_threads.specs.Parts.{AllParts, InReverse, IsCarried}
use Rattle.loop_threads.specs.Members.{IsOfPart}

-- a part as it begins: the homes and the hand of its loop, whose run hasn't ended
pub record BeginsRun {C W O : Type 0} (homes : Homes C O) (hand : Hand W) (part : Part C W O) : Type 0 where
  pub home_is : part.home ≡ homes.home
  pub lots_are : part.lot_pass ≡ homes.lot_pass
  pub coroutines_are : part.coroutines ≡ homes.coroutines
  pub side_is : part.side ≡ hand.side
  pub work_is : part.work ≡ hand.work
  pub not_ended : part.carried ≡ false

-- the last of so many begins as the first of the homes and hands, and so on
abbrev pub BeginEach : {C W O : Type 0} → ℕ → List (Homes C O) → List (Hand W) → List (Part C W O) → Type 0
BeginEach {C} {W} {O} n homes hands parts =
    (k j : ℕ) (h : Homes C O) (d : Hand W) (p : Part C W O) → k + j + 1 ≡ n → BeginsRun (slice_index_or homes k h) (slice_index_or hands k d) (slice_index_or parts j p)

-- the rows of the first so many parts have seen what these seats had, and made what they own of it
abbrev pub PartsSee : {C W O : Type 0} → ℕ → ℕ → List (Seats C O) → List (Part C W O) → Type 0
PartsSee {C} {W} {O} n loops whole parts =
    (j : ℕ) (p : Part C W O) → j < n → RowSees loops whole (slice_index_or parts j p).row.seats.items

-- there is room for each of so many, and nothing there
pub record PartsHaveRoom {C W O : Type 0} (n : ℕ) (prepared : Prepared C W O) : Type 0 where
  pub flags : n ≤ vec_len prepared.handed_back
  pub left : (vec_len prepared.left ≡ 0) × (n ≤ vec_capacity prepared.left)
  pub other : (vec_len prepared.other ≡ 0) × (n ≤ vec_capacity prepared.other)
  pub late : (vec_len prepared.late ≡ 0) × (n ≤ vec_capacity prepared.late)
  pub done : (vec_len prepared.done ≡ 0) × (n ≤ vec_capacity prepared.done)
  pub members : (vec_len prepared.members ≡ 0) × (n ≤ vec_capacity prepared.members)
  pub ends : (vec_len prepared.ends ≡ 0) × (n ≤ vec_capacity prepared.ends)

module _ {C W O : Type 0} (can_work : W → List (LoopShared C O) → LoopState C O → Type 0) where
  -- whatever the row, the work can begin on the loop of this number, with these homes
  pub record CanBegin (shared : List (LoopShared C O)) (k : ℕ) (homes : Homes C O) (hand : Hand W) : Type 0 where
    pub walking : IsFalse hand.side.handlers.walking
    pub ready : (loop : LoopState C O) → loop.number ≡ k → loop.home ≡ homes.home.seat → loop.side ≡ hand.side → loop.lots ≡ homes.lot_pass → loop.coroutines ≡ homes.coroutines → IsStation shared loop → can_work hand.work shared loop

  abbrev pub CanBeginEach : List (LoopShared C O) → List (Homes C O) → List (Hand W) → Type 0
  CanBeginEach shared homes hands =
      (k : ℕ) (h : Homes C O) (d : Hand W) → k < length shared → CanBegin shared k (slice_index_or homes k h) (slice_index_or hands k d)

  -- all that a run needs of what was prepared
  pub record IsPrepared (shared : List (LoopShared C O)) (prepared : Prepared C W O) : Type 0 where
    pub few : length shared ≤ 16
    pub count : length prepared.parts.items ≡ length shared
    pub parts : AllParts can_work shared prepared.parts.items
    pub reversed : InReverse prepared.parts.items
    pub mine : IsRow shared prepared.mine × HasNumbers 0 (64 - 2 * length shared) prepared.mine
    pub room : PartsHaveRoom (length shared) prepared

module _ {C W O : Type 0} (can_work : W → List (LoopShared C O) → LoopState C O → Type 0) (does : List (LoopShared C O) → W → LoopState C O → Bool → W → LoopState C O → Type 0) where
  -- The loop was carried from this part to its end. What its thread had seen and made on each table then stands in what the row of all
  -- numbers has seen.
  pub record Runs (shared : List (LoopShared C O)) (row : Row C O) (part : Part C W O) (member : Member C W O) : Type 0 where
    pub last : Part C W O
    pub carried : IsCarried can_work does shared part last
    pub is : IsOfPart last member
    pub within : RowWithin (length shared) last.row.seats.items row.seats.items

  abbrev pub RunsEach : List (LoopShared C O) → Row C O → ℕ → List (Part C W O) → List (Member C W O) → Type 0
  RunsEach shared row n parts members =
      (k j : ℕ) (p : Part C W O) (m : Member C W O) → k + j + 1 ≡ n → Runs shared row (slice_index_or parts j p) (slice_index_or members k m)
