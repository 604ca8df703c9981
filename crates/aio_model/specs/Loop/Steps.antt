-- What the private steps of a loop of one thread do to its state.
use Rattle.std.specs.Prelude.{ℕ, true, false, ◌||◌, if◌then◌else◌, ◌∷◌, slice_set}
use Rattle.aio_model.specs.declared.loops.flags.Flags.{Flags}
use Rattle.aio_model.specs.declared.loops.bottom_halves.BottomHalf.{BottomHalf}
use Rattle.aio_model.specs.Loop.History.{EnqueueAsks, ToCall, ToCallIdle, ToDelete, ToCallOnce}
use Rattle.aio_model.specs.Loop.State.{LoopState, half_at}

abbrev pub flags_or : Flags → Flags → Flags
flags_or add was =
    record { pending = add.pending || was.pending; scheduled = add.scheduled || was.scheduled; deleted = add.deleted || was.deleted; oneshot = add.oneshot || was.oneshot; idle = add.idle || was.idle }

-- the flags that an enqueue adds
abbrev pub added_by : EnqueueAsks → Flags
added_by ToCall = record { pending = true; scheduled = true; deleted = false; oneshot = false; idle = false }
added_by ToCallIdle = record { pending = true; scheduled = true; deleted = false; oneshot = false; idle = true }
added_by ToDelete = record { pending = true; scheduled = false; deleted = true; oneshot = false; idle = false }
added_by ToCallOnce = record { pending = true; scheduled = true; deleted = false; oneshot = true; idle = false }

abbrev pub after_dequeue : Flags → Flags
after_dequeue was = record was { pending = false; scheduled = false; idle = false }

abbrev pub asked_half : Flags → BottomHalf → BottomHalf
asked_half add half = record half { flags = flags_or add half.flags }

abbrev pub enqueued_state : Flags → ℕ → LoopState → LoopState
enqueued_state add i state =
    record state { halves = slice_set state.halves i (asked_half add (half_at i state)); stack = if (half_at i state).flags.pending then state.stack else i ∷ state.stack; rung = true }

abbrev pub begun_state : ℕ → LoopState → LoopState
begun_state i state =
    record state { halves = slice_set state.halves i (record (half_at i state) { lives = true }) }
