-- What contracts see of a table and of a seat.
use Rattle.std.specs.Prelude.{◌≡◌, ◌≢◌, ℕ, ◌+◌, ◌<◌, not, nat_lt, Option, None, Some, is_some, List, [], ◌∷◌}
use Rattle.atomic_table.specs.Seated.{TableId}
use Rattle.aio_model.specs.declared.loops.flags.Flags.{Flags}
use Rattle.aio_model.specs.Loop.History.{Sizes}
use Rattle.aio_model.specs.Loop.Lists.{job_of}
use Rattle.aio_model.specs.Loop.InFlight.{AtRest}
use Rattle.aio_core.specs.Words.{flags_at, index_count, free_word}
use Rattle.aio_core.specs.Known.{LotClaimCompare, Known, Running, empty_stage}
use Rattle.aio_core.specs.Standing.{Misses, Looks, Takes, Lifts, Dequeues}

-- which table it is, and how many handles, lots and events it has
pub record TableState : Type 0 where
  pub table : TableId
  pub sizes : Sizes

-- the table of a seat, and what it knows
pub record SeatState : Type 0 where
  pub table : TableId
  pub known : Known

-- the seat is of the table
pub record IsSeatOf (table : TableState) (seat : SeatState) : Type 0 where
  pub tables : seat.table ≡ table.table
  pub sizes : seat.known.sizes ≡ table.sizes

-- the seat is of the table, and at rest
pub record IsReady (table : TableState) (seat : SeatState) : Type 0 where
  pub of : IsSeatOf table seat
  pub rest : seat.known.phase ≡ AtRest

-- the head was another than the one that was loaded
pub record IsMissed (i head : ℕ) (before after : Known) : Type 0 where
  pub found : ℕ
  pub other : found ≢ head
  pub misses : Misses i found before after

-- the lot had a life
pub record IsTaken (i : ℕ) (before after : Known) : Type 0 where
  pub found : ℕ
  pub taken : found ≢ free_word
  pub looks : Looks LotClaimCompare (flags_at i) found before after

-- the list was taken
pub record HasTaken (before after : Known) : Type 0 where
  pub found : ℕ
  pub takes : Takes found before after

-- the first of the first slice is at hand
pub record HasLifted (i : ℕ) (before after : Known) : Type 0 where
  pub found : ℕ
  pub more : List ℕ
  pub first : before.stage.slices ≡ (i + 1) ∷ more
  pub lifts : Lifts i found None more before after

-- the number of a job, if there is one
abbrev pub number_in : {J : Type 0} → (J → ℕ) → Option J → Option ℕ
number_in number None = None
number_in number (Some job) = Some (number job)

-- The first of the first slice was lifted and dequeued. A handle has no job, and the job of a lot is that for which its life began.
pub record DequeuesNext (i : ℕ) (flags : Flags) (job : Option ℕ) (before after : Known) : Type 0 where
  pub found : ℕ
  pub more : List ℕ
  pub lifted : Known
  pub below : i < index_count before.sizes
  pub first : before.stage.slices ≡ (i + 1) ∷ more
  pub lifts : Lifts i found job more before lifted
  pub dequeues : Dequeues i flags lifted after
  pub job_is : job_of i after.seen ≡ job
  pub of_lot : is_some job ≡ not (nat_lt i before.sizes.handles)

-- what the seat and the home of a new table know
abbrev pub first_seat : Sizes → Known
first_seat sizes =
    record { sizes = sizes; seen = []; mine = []; did = []; first = 0; count = 64; phase = AtRest; stage = empty_stage; sleep = Running; told = None }

abbrev pub first_home : Sizes → Known
first_home sizes =
    record { sizes = sizes; seen = []; mine = []; did = []; first = 64; count = 1; phase = AtRest; stage = empty_stage; sleep = Running; told = None }
