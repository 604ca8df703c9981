-- Loops for walkers.
use Rattle.std.specs.Prelude.{◌≡◌, ℕ, ◌<◌, List, length, slice_index_or}
use Rattle.loop_rows.specs.declared.shared.LoopShared.{LoopShared}

-- each loop has a number for each walker
abbrev pub HaveRoomForWalkers : {C O : Type 0} → List (LoopShared C O) → Type 0
HaveRoomForWalkers {C} {O} shared =
    (k : ℕ) (t : LoopShared C O) → k < length shared → (slice_index_or shared k t).coroutines.coroutines ≡ 16
