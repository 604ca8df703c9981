-- What the run of some loops came to.
use Rattle.std.specs.Prelude.{◌≡◌, ◌<◌, ◌-◌, ◌*◌, Bool, List, length}
use Rattle.loop_rows.specs.declared.opening.Homes.{Homes}
use Rattle.loop_rows.specs.declared.rows.Row.{Row}
use Rattle.loop_rows.specs.declared.shared.LoopShared.{LoopShared}
use Rattle.loop_rows.specs.LoopStates.{LoopState}
use Rattle.loop_rows.specs.Rows.{IsRow, HasNumbers}
use Rattle.loop_threads.specs.declared.ending.LoopRun.{LoopRun}
use Rattle.loop_threads.specs.declared.hands.Hand.{Hand}
use Rattle.loop_threads.specs.declared.members.Joined.{Joined}
use Rattle.loop_threads.specs.declared.parts.Part.{Part}
use Rattle.loop_threads.specs.Dealing.{RowSees}
use Rattle.loop_threads.specs.Ending.{EndsEach}
use Rattle.loop_threads.specs.Parts.{AllParts, InReverse}
use Rattle.loop_threads.specs.Running.{BeginEach, PartsSee, RunsEach}
use Rattle.loop_threads.specs.Within.{RowWithin}

module _ {C W O : Type 0} (can_work : W → List (LoopShared C O) → LoopState C O → Type 0) (does : List (LoopShared C O) → W → LoopState C O → Bool → W → LoopState C O → Type 0) where
  -- Each loop began with its homes and its hand, and was given turns to the end of its run. The row was dealt: each loop's thread had two
  -- numbers of it, in the order of the loops, and the caller kept those before.
  pub record AreCarried (shared : List (LoopShared C O)) (homes : List (Homes C O)) (hands : List (Hand W)) (row : Row C O) (joined : Joined C W O) : Type 0 where
    pub parts : List (Part C W O)
    pub many : length parts ≡ length shared
    pub begins : BeginEach (length shared) homes hands parts
    pub parts_are : AllParts can_work shared parts
    pub reversed : InReverse parts
    pub parts_see : PartsSee (length shared) (length shared) row.seats.items parts
    pub mine : Row C O
    pub mine_is : IsRow shared mine × HasNumbers 0 (64 - 2 * length shared) mine
    pub mine_sees : RowSees (length shared) row.seats.items mine.seats.items
    pub mine_stands : 0 < length shared → RowWithin (length shared) mine.seats.items joined.row.seats.items
    pub runs : RunsEach can_work does shared joined.row (length shared) parts joined.members.items

  -- and was then ended, with nobody else on it
  pub record AreRun (shared : List (LoopShared C O)) (homes : List (Homes C O)) (hands : List (Hand W)) (row : Row C O) (runs : List (LoopRun C W O)) : Type 0 where
    pub joined : Joined C W O
    pub carried : AreCarried shared homes hands row joined
    pub is_row : IsRow shared joined.row
    pub members : length joined.members.items ≡ length shared
    pub many : length runs ≡ length shared
    pub ends : EndsEach (length shared) shared joined.members.items joined.row.seats.items runs
