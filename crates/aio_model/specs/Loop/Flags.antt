-- Lives and rounds, and the flags of an index.
use Rattle.std.specs.Prelude.{ℕ, ◌+◌, Bool, true, false, not, ◌&&◌, ◌||◌, ◌==◌, nat_lt, if◌then◌else◌, [], ◌∷◌}
use Rattle.aio_model.specs.declared.loops.flags.Flags.{Flags}
use Rattle.aio_model.specs.Loop.History.{EnqueueAsks, ToCallIdle, ToDelete, ToCallOnce, Entry, New, Enqueue, Put, Cancel, Dequeue, Free, History, Sizes}

-- What one entry does to an index.

abbrev pub begins : ℕ → Entry → Bool
begins i (New j seat job) = i == j
begins i _ = false

abbrev pub frees : ℕ → Entry → Bool
frees i (Free j) = i == j
frees i _ = false

abbrev pub enqueues : ℕ → Entry → Bool
enqueues i (Enqueue j asked seat was) = i == j
enqueues i _ = false

abbrev pub puts : ℕ → Entry → Bool
puts i (Put j seat) = i == j
puts i _ = false

abbrev pub cancels : ℕ → Entry → Bool
cancels i (Cancel j seat was) = i == j
cancels i _ = false

abbrev pub dequeues : ℕ → Entry → Bool
dequeues i (Dequeue j ran) = i == j
dequeues i _ = false

-- a scheduling kind of enqueue asks for a call
abbrev pub is_scheduling : EnqueueAsks → Bool
is_scheduling ToDelete = false
is_scheduling _ = true

abbrev pub is_idling : EnqueueAsks → Bool
is_idling ToCallIdle = true
is_idling _ = false

abbrev pub is_deleting : EnqueueAsks → Bool
is_deleting ToDelete = true
is_deleting _ = false

abbrev pub is_once : EnqueueAsks → Bool
is_once ToCallOnce = true
is_once _ = false

-- the entry is an enqueue of the index whose kind passes the test
abbrev pub asks : (EnqueueAsks → Bool) → ℕ → Entry → Bool
asks test i (Enqueue j asked seat was) = (i == j) && test asked
asks test i _ = false

-- A life of a lot is what follows its beginning, up to its end. The life of a handle is the whole history.

-- what is older belongs to no life of the index, or to an earlier one
abbrev pub ends_life : ℕ → Entry → Bool
ends_life i e = begins i e || frees i e

-- a round is what follows the last dequeue in a life, or the whole life where there is none
abbrev pub ends_round : ℕ → Entry → Bool
ends_round i e = dequeues i e || ends_life i e

-- the lot was begun, and not freed since
abbrev pub lives : ℕ → History → Bool
lives i [] = false
lives i (e ∷ older) = if frees i e then false else (begins i e || lives i older)

abbrev pub has_life : Sizes → ℕ → History → Bool
has_life sizes i history = nat_lt i sizes.handles || lives i history

abbrev pub is_lot : Sizes → ℕ → Bool
is_lot sizes i = not (nat_lt i sizes.handles) && nat_lt i (sizes.handles + sizes.lots)

-- the life has a dequeue
abbrev pub was_dequeued : ℕ → History → Bool
was_dequeued i [] = false
was_dequeued i (e ∷ older) = if ends_life i e then false else (dequeues i e || was_dequeued i older)

-- The flags.

-- the round has an enqueue
abbrev pub is_pending : ℕ → History → Bool
is_pending i [] = false
is_pending i (e ∷ older) = if ends_round i e then false else (enqueues i e || is_pending i older)

-- the round has an enqueue of a scheduling kind
abbrev pub was_scheduled : ℕ → History → Bool
was_scheduled i [] = false
was_scheduled i (e ∷ older) =
    if ends_round i e then false else (asks is_scheduling i e || was_scheduled i older)

-- the round has an enqueue of a scheduling kind with no cancel after it
abbrev pub is_scheduled : ℕ → History → Bool
is_scheduled i [] = false
is_scheduled i (e ∷ older) =
    if ends_round i e || cancels i e then false else (asks is_scheduling i e || is_scheduled i older)

-- the round has an idle enqueue
abbrev pub is_idle : ℕ → History → Bool
is_idle i [] = false
is_idle i (e ∷ older) = if ends_round i e then false else (asks is_idling i e || is_idle i older)

-- the life has a deletion
abbrev pub is_deleted : ℕ → History → Bool
is_deleted i [] = false
is_deleted i (e ∷ older) = if ends_life i e then false else (asks is_deleting i e || is_deleted i older)

-- the life has the enqueue of a one-shot
abbrev pub is_oneshot : ℕ → History → Bool
is_oneshot i [] = false
is_oneshot i (e ∷ older) = if ends_life i e then false else (asks is_once i e || is_oneshot i older)

abbrev pub flags_of : ℕ → History → Flags
flags_of i history =
    record { pending = is_pending i history; scheduled = is_scheduled i history; deleted = is_deleted i history; oneshot = is_oneshot i history; idle = is_idle i history }

-- flags under which a dequeue calls
abbrev pub are_due : Flags → Bool
are_due flags = flags.scheduled && not flags.deleted

-- due, and not idle
abbrev pub are_urgent : Flags → Bool
are_urgent flags = are_due flags && not flags.idle

abbrev pub is_due : ℕ → History → Bool
is_due i history = are_due (flags_of i history)

abbrev pub is_urgent : ℕ → History → Bool
is_urgent i history = are_urgent (flags_of i history)
