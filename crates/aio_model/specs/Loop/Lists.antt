-- Which indices were pushed, taken and are still out; which are announced and not yet pushed; which events are set.
use Rattle.std.specs.Prelude.{ℕ, suc, Bool, false, not, ◌&&◌, ◌||◌, ◌==◌, if◌then◌else◌, Option, None, Some, List, [], ◌∷◌, ◌++◌, drop}
use Rattle.aio_model.specs.Loop.History.{Entry, New, Enqueue, Put, Cancel, Take, Dequeue, Free, SetEvent, ClearEvent, History}
use Rattle.aio_model.specs.Loop.Flags.{begins, frees, enqueues, puts, ends_round, is_pending}

-- the number of the seat that made the entry; the home's is 64
abbrev pub seat_of : Entry → ℕ
seat_of (New i seat job) = seat
seat_of (Enqueue i asked seat was) = seat
seat_of (Put i seat) = seat
seat_of (Cancel i seat was) = seat
seat_of Take = 64
seat_of (Dequeue i ran) = 64
seat_of (Free i) = 64
seat_of (SetEvent e seat) = seat
seat_of (ClearEvent e was) = 64

-- the round has a push
abbrev pub was_put : ℕ → History → Bool
was_put i [] = false
was_put i (e ∷ older) = if ends_round i e then false else (puts i e || was_put i older)

-- the round has an enqueue and no push
abbrev pub is_announced : ℕ → History → Bool
is_announced i history = is_pending i history && not (was_put i history)

abbrev pub or_else : Option ℕ → Option ℕ → Option ℕ
or_else (Some n) other = Some n
or_else None other = other

-- the seat of the first enqueue of the round
abbrev pub announcer_of : ℕ → History → Option ℕ
announcer_of i [] = None
announcer_of i (e ∷ older) =
    if ends_round i e then None else or_else (announcer_of i older) (if enqueues i e then Some (seat_of e) else None)

-- the seat that began the life of a lot which nothing has enqueued yet
abbrev pub claimer_of : ℕ → History → Option ℕ
claimer_of i [] = None
claimer_of i (e ∷ older) =
    if begins i e then Some (seat_of e) else if enqueues i e || frees i e then None else claimer_of i older

-- what was pushed since the last take, newest first
abbrev pub stack_of : History → List ℕ
stack_of [] = []
stack_of (Put i seat ∷ older) = i ∷ stack_of older
stack_of (Take ∷ older) = []
stack_of (_ ∷ older) = stack_of older

-- the stacks that were taken, one after another
abbrev pub taken_of : History → List ℕ
taken_of [] = []
taken_of (Take ∷ older) = taken_of older ++ stack_of older
taken_of (_ ∷ older) = taken_of older

abbrev pub dequeue_count : History → ℕ
dequeue_count [] = 0
dequeue_count (Dequeue i ran ∷ older) = suc (dequeue_count older)
dequeue_count (_ ∷ older) = dequeue_count older

-- what was taken and not dequeued yet
abbrev pub out_of : History → List ℕ
out_of history = drop (dequeue_count history) (taken_of history)

abbrev pub head_of : List ℕ → Option ℕ
head_of [] = None
head_of (i ∷ rest) = Some i

-- the event was set, and not cleared since
abbrev pub is_set : ℕ → History → Bool
is_set event [] = false
is_set event (SetEvent e seat ∷ older) = (event == e) || is_set event older
is_set event (ClearEvent e was ∷ older) = if event == e then false else is_set event older
is_set event (_ ∷ older) = is_set event older

-- the number of the job for which the life of the lot was begun
abbrev pub job_of : ℕ → History → Option ℕ
job_of i [] = None
job_of i (New j seat job ∷ older) = if i == j then Some job else job_of i older
job_of i (Free j ∷ older) = if i == j then None else job_of i older
job_of i (_ ∷ older) = job_of i older
