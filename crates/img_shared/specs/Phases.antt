-- How far each stream's request is, and the hold that goes with it.
use Rattle.std.specs.Prelude.{◌≡◌, ℕ, ◌⊎◌, Bool, true, false, not, List, get_or, count_by}
use Rattle.aio_model.specs.declared.holds.Hold.{Hold}
use Rattle.aio_model.specs.declared.holds.Hold.TheVariants.{Free, Reads, Writes, WaitsRead, WaitsWrite}
use Rattle.aio_model.specs.Holds.WhoHolds.{ReadersWriter}
use Rattle.aio_model.specs.Holds.Table.{HoldAsked, read_locked, write_locked}
use Rattle.img_requests.specs.declared.present.RequestKind.{RequestKind}
use Rattle.img_requests.specs.declared.present.RequestKind.TheVariants.{Read, Write, Zero, Flush}
use Rattle.img_requests.specs.declared.present.Stage.{Stage}
use Rattle.img_requests.specs.declared.present.Stage.TheVariants as stage
use Rattle.img_requests.specs.ImageState.{IsEnded}
use Rattle.img_shared.specs.declared.phases.Phase.{Phase}
use Rattle.img_shared.specs.declared.phases.Phase.TheVariants.{Idle, Waiting, Active, Retired}

-- the hold that a request needs
abbrev pub held_by : RequestKind → Hold
held_by Read = Reads
held_by Flush = Reads
held_by Write = Writes
held_by Zero = Writes

-- what its stream has until then
abbrev pub hold_awaited : RequestKind → Hold
hold_awaited Read = WaitsRead
hold_awaited Flush = WaitsRead
hold_awaited Write = WaitsWrite
hold_awaited Zero = WaitsWrite

-- what asking for that hold answers, and leaves
abbrev pub hold_asked : RequestKind → ℕ → ReadersWriter → HoldAsked
hold_asked Read who state = read_locked who state
hold_asked Flush who state = read_locked who state
hold_asked Write who state = write_locked who state
hold_asked Zero who state = write_locked who state

-- the phase of a stream; `Idle` where there is no such stream
abbrev pub phase_at : List Phase → ℕ → Phase
phase_at phases stream = get_or phases stream Idle

-- A phase and its stream's hold go together. Who waits may have been granted its hold.
abbrev pub Linked : Phase → Hold → Type 0
Linked Idle hold = hold ≡ Free
Linked (Waiting present) hold = (hold ≡ hold_awaited present.kind) ⊎ (hold ≡ held_by present.kind)
Linked (Active present) hold = hold ≡ held_by present.kind
Linked Retired hold = hold ≡ Free

-- its request puts bytes
abbrev pub Writing : Phase → Type 0
Writing Idle = ⊥
Writing (Waiting present) = ⊥
Writing (Active present) = held_by present.kind ≡ Writes
Writing Retired = ⊥

-- how many bytes of its request were served
abbrev pub done_in : Phase → ℕ
done_in Idle = 0
done_in (Waiting present) = 0
done_in (Active present) = present.done
done_in Retired = 0

-- its request was queued, and its hold wasn't taken up
abbrev pub IsWaiting : Phase → Type 0
IsWaiting Idle = ⊥
IsWaiting (Waiting present) = Unit {0}
IsWaiting (Active present) = ⊥
IsWaiting Retired = ⊥

-- the phase once the hold is taken up
abbrev pub taken_up : Phase → Phase
taken_up (Waiting present) = Active present
taken_up Idle = Idle
taken_up (Active present) = Active present
taken_up Retired = Retired

-- its request was served whole, or failed
abbrev pub CanLeave : Phase → Type 0
CanLeave Idle = ⊥
CanLeave (Waiting present) = ⊥
CanLeave (Active present) = IsEnded present.stage
CanLeave Retired = ⊥

abbrev pub is_failed_stage : Stage → Bool
is_failed_stage stage.Begun = false
is_failed_stage stage.Whole = false
is_failed_stage stage.Failed = true

-- the device failed at its request
abbrev pub has_failed : Phase → Bool
has_failed Idle = false
has_failed (Waiting present) = false
has_failed (Active present) = is_failed_stage present.stage
has_failed Retired = false

abbrev pub has_retired : Phase → Bool
has_retired Idle = false
has_retired (Waiting present) = false
has_retired (Active present) = false
has_retired Retired = true

-- how many streams haven't retired
abbrev pub still_going : List Phase → ℕ
still_going phases = count_by (λ phase. not (has_retired phase)) phases
