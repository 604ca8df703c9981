-- Steps on one loop by a row.
use Rattle.std.specs.Prelude.{◌≡◌, ◌≢◌, ℕ, List, slice_index_or}
use Rattle.aio_model.specs.declared.loops.flags.Flags.{Flags}
use Rattle.aio_model.specs.Loop.History.{ToCall}
use Rattle.aio_bh.specs.Enqueuing.{Schedules}
use Rattle.aio_notify.specs.Setting.{SetsAndNotifies}
use Rattle.loop_rows.specs.declared.seats.Seats.{Seats}

-- all seats but those of this loop are as they were
abbrev pub OthersStay : {C O : Type 0} → ℕ → List (Seats C O) → List (Seats C O) → Type 0
OthersStay {C} {O} to before after =
    (k : ℕ) (s : Seats C O) → k ≢ to → slice_index_or after k s ≡ slice_index_or before k s

-- handle 0 was scheduled by the seat of this loop
abbrev pub SchedulesAt : {C O : Type 0} → ℕ → Flags → List (Seats C O) → List (Seats C O) → Type 0
SchedulesAt {C} {O} to flags before after =
    (b a : Seats C O) → Schedules 0 ToCall flags (slice_index_or before to b).bottoms.known (slice_index_or after to a).bottoms.known

-- event 0 was set by the seat of this loop
abbrev pub SetsAt : {C O : Type 0} → ℕ → List (Seats C O) → List (Seats C O) → Type 0
SetsAt {C} {O} to before after =
    (b a : Seats C O) → SetsAndNotifies 0 (slice_index_or before to b).bottoms.known (slice_index_or after to a).bottoms.known

-- all seats of the tables of coroutines are as they were
abbrev pub CoroutinesStay : {C O : Type 0} → List (Seats C O) → List (Seats C O) → Type 0
CoroutinesStay {C} {O} before after =
    (k : ℕ) (s : Seats C O) → (slice_index_or after k s).coroutines ≡ (slice_index_or before k s).coroutines
