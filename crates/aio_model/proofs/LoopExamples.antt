-- The definitions of the loop at short lists of calls, computed: what stands here was worked out by hand.
use Rattle.std.proofs.Common.{◌≡◌, ℕ, true, false, [], Some, None, refl}
use Rattle.aio_model.specs.declared.loops.flags.Flags.{Flags}
use Rattle.aio_model.specs.declared.loops.commits.Commit.TheVariants.{Sleep, Awake}
use Rattle.aio_model.specs.declared.loops.commits.Why.TheVariants.{Urgent, Event, Notified}
use Rattle.aio_model.specs.Loop.History.{ToCall, ToCallIdle, ToDelete, Sizes}
use Rattle.aio_model.specs.Loop.Log.{Log, flags_before, enqueued_log, canceled_log, taken_log, taken_count, next_of, dequeued_log, vacant_of, once_log, set_log, cleared_log, commit_of, committed_log}

abbrev sizes : ℕ → ℕ → ℕ → Sizes
sizes handles lots events = record { handles = handles; lots = lots; events = events }

abbrev pending_scheduled : Flags
pending_scheduled = record { pending = true; scheduled = true; deleted = false; oneshot = false; idle = false }

abbrev pending_alone : Flags
pending_alone = record { pending = true; scheduled = false; deleted = false; oneshot = false; idle = false }

abbrev pending_deleted : Flags
pending_deleted = record { pending = true; scheduled = false; deleted = true; oneshot = false; idle = false }

-- scheduled twice before a poll: called once, and a second poll takes nothing
abbrev twice : Log
twice = enqueued_log 0 ToCall 0 (enqueued_log 0 ToCall 0 [])

second_schedule_finds : flags_before 0 (enqueued_log 0 ToCall 0 []) ≡ pending_scheduled
second_schedule_finds = refl

twice_is_taken_once : taken_count twice ≡ 1
twice_is_taken_once = refl

twice_is_called : next_of (taken_log twice) ≡ Some (0, pending_scheduled)
twice_is_called = refl

nothing_is_left : next_of (dequeued_log (taken_log twice)) ≡ None
nothing_is_left = refl

second_poll_takes_none : taken_count (dequeued_log (taken_log twice)) ≡ 0
second_poll_takes_none = refl

-- the last that was pushed comes first
last_comes_first : next_of (taken_log (enqueued_log 2 ToCall 0 (enqueued_log 1 ToCall 0 (enqueued_log 0 ToCall 0 [])))) ≡ Some (2, pending_scheduled)
last_comes_first = refl

-- a cancel before a poll: dequeued, and not called; scheduled again before it, it is called
cancel_leaves_pending : next_of (taken_log (canceled_log 0 0 (enqueued_log 0 ToCall 0 []))) ≡ Some (0, pending_alone)
cancel_leaves_pending = refl

canceled_and_scheduled : next_of (taken_log (enqueued_log 0 ToCall 0 (canceled_log 0 0 (enqueued_log 0 ToCall 0 [])))) ≡ Some (0, pending_scheduled)
canceled_and_scheduled = refl

-- a deletion stays
deletion_is_found : flags_before 0 (enqueued_log 0 ToDelete 0 []) ≡ pending_deleted
deletion_is_found = refl

-- an idle one, scheduled besides: notified once, and then a short sleep
abbrev idle : Log
idle = enqueued_log 0 ToCall 0 (enqueued_log 0 ToCallIdle 0 [])

idle_notifies : commit_of (sizes 1 0 0) idle ≡ Awake Notified
idle_notifies = refl

idle_sleeps_shortly : commit_of (sizes 1 0 0) (committed_log idle) ≡ Sleep (Some 10000000)
idle_sleeps_shortly = refl

-- urgent before events before a ring
urgent_wakes : commit_of (sizes 1 0 4) (enqueued_log 0 ToCall 0 []) ≡ Awake (Urgent 0)
urgent_wakes = refl

event_wakes : commit_of (sizes 1 0 4) (set_log 3 0 []) ≡ Awake (Event 3)
event_wakes = refl

cleared_sleeps : commit_of (sizes 1 0 4) (cleared_log 3 (committed_log (set_log 3 0 []))) ≡ Sleep None
cleared_sleeps = refl

-- one lot: put, and then no room
one_lot : vacant_of (sizes 1 1 0) [] ≡ Some 1
one_lot = refl

no_room : vacant_of (sizes 1 1 0) (once_log (sizes 1 1 0) 0 7 []) ≡ None
no_room = refl
