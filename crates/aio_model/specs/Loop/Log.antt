-- What was done to a loop of one thread: entries of its history, and commits between them.
use Rattle.std.specs.Prelude.{ℕ, zero, suc, ◌+◌, Bool, true, false, ◌||◌, not, if◌then◌else◌, Option, None, Some, is_some, List, [], ◌∷◌, length, find}
use Rattle.aio_model.specs.declared.loops.flags.Flags.{Flags}
use Rattle.aio_model.specs.declared.loops.commits.Commit.{Commit}
use Rattle.aio_model.specs.declared.loops.commits.Commit.TheVariants.{Sleep, Awake}
use Rattle.aio_model.specs.declared.loops.commits.Why.TheVariants.{Urgent, Event, Notified}
use Rattle.aio_model.specs.Loop.History.{EnqueueAsks, ToCallOnce, Entry, New, Enqueue, Put, Cancel, Take, Dequeue, Free, SetEvent, ClearEvent, History, Sizes}
use Rattle.aio_model.specs.Loop.Flags.{lives, is_pending, flags_of, is_due, is_urgent}
use Rattle.aio_model.specs.Loop.Lists.{stack_of, out_of, head_of, is_set}

pub data Mark : Type 0 where
  Made : Entry → Mark
  Committed : Mark

-- newest in front
abbrev pub Log : Type 0
Log = List Mark

abbrev pub history_of : Log → History
history_of [] = []
history_of (Made e ∷ older) = e ∷ history_of older
history_of (Committed ∷ older) = history_of older

-- the entry notifies the loop
abbrev pub rings : Entry → Bool
rings (Enqueue i asked seat was) = true
rings (SetEvent e seat) = true
rings _ = false

-- an enqueue or the setting of an event stands after the last commit
abbrev pub is_rung : Log → Bool
is_rung [] = false
is_rung (Committed ∷ older) = false
is_rung (Made e ∷ older) = rings e || is_rung older

-- the first of so many numbers, from this one on, that passes
abbrev pub first_from : (ℕ → Bool) → ℕ → ℕ → Option ℕ
first_from test start zero = None
first_from test start (suc more) = if test start then Some start else first_from test (suc start) more

-- What each call answers, and what it adds.

abbrev pub flags_before : ℕ → Log → Flags
flags_before i log = flags_of i (history_of log)

abbrev pub asked_log : ℕ → EnqueueAsks → ℕ → Log → Log
asked_log i asked seat log = Made (Enqueue i asked seat (flags_before i log)) ∷ log

-- an enqueue, and a push where it found the index not pending
abbrev pub enqueued_log : ℕ → EnqueueAsks → ℕ → Log → Log
enqueued_log i asked seat log =
    if is_pending i (history_of log) then asked_log i asked seat log else Made (Put i seat) ∷ asked_log i asked seat log

abbrev pub canceled_log : ℕ → ℕ → Log → Log
canceled_log i seat log = Made (Cancel i seat (flags_before i log)) ∷ log

abbrev pub taken_log : Log → Log
taken_log log = Made Take ∷ log

-- how many a take takes
abbrev pub taken_count : Log → ℕ
taken_count log = length (stack_of (history_of log))

abbrev pub with_flags : Log → Option ℕ → Option (ℕ × Flags)
with_flags log None = None
with_flags log (Some i) = Some (i, flags_before i log)

-- the first that is out, and its flags
abbrev pub next_of : Log → Option (ℕ × Flags)
next_of log = with_flags log (head_of (out_of (history_of log)))

abbrev pub dequeued_from : Log → Option ℕ → Log
dequeued_from log None = log
dequeued_from log (Some i) = Made (Dequeue i (is_due i (history_of log))) ∷ log

abbrev pub dequeued_log : Log → Log
dequeued_log log = dequeued_from log (head_of (out_of (history_of log)))

-- the least lot without a life
abbrev pub vacant_of : Sizes → Log → Option ℕ
vacant_of sizes log = first_from (λ i. not (lives i (history_of log))) sizes.handles sizes.lots

abbrev pub begun_log : ℕ → ℕ → ℕ → Log → Log
begun_log i seat job log =
    enqueued_log i ToCallOnce seat (Made (New i seat job) ∷ log)

abbrev pub begun_from : ℕ → ℕ → Log → Option ℕ → Log
begun_from seat job log None = log
begun_from seat job log (Some i) = begun_log i seat job log

-- a one-shot in the least lot without a life
abbrev pub once_log : Sizes → ℕ → ℕ → Log → Log
once_log sizes seat job log = begun_from seat job log (vacant_of sizes log)

abbrev pub freed_log : ℕ → Log → Log
freed_log i log = Made (Free i) ∷ log

abbrev pub set_log : ℕ → ℕ → Log → Log
set_log e seat log = Made (SetEvent e seat) ∷ log

abbrev pub is_set_in : ℕ → Log → Bool
is_set_in e log = is_set e (history_of log)

abbrev pub cleared_log : ℕ → Log → Log
cleared_log e log = Made (ClearEvent e (is_set_in e log)) ∷ log

-- why the loop may not sleep, or for how long it may: 10 ms where something is due, and so idle
abbrev pub commit_from : Option ℕ → Option ℕ → Bool → Bool → Commit
commit_from (Some i) set rung due = Awake (Urgent i)
commit_from None (Some e) rung due = Awake (Event e)
commit_from None None true due = Awake Notified
commit_from None None false true = Sleep (Some 10000000)
commit_from None None false false = Sleep None

-- the first urgent one of the stack, else the least event that is set, else a ring since the last commit
abbrev pub commit_of : Sizes → Log → Commit
commit_of sizes log =
    let history = history_of log in
    commit_from (find (λ i. is_urgent i history) (stack_of history)) (first_from (λ e. is_set e history) 0 sizes.events) (is_rung log) (is_some (first_from (λ i. is_due i history) 0 (sizes.handles + sizes.lots)))

abbrev pub committed_log : Log → Log
committed_log log = Committed ∷ log
