-- What a call on readers and a writer does to everybody's hold.

pub mod WhoHolds
pub mod Table
use Rattle.std.specs.Prelude.{◌≡◌, ◌≢◌, ℕ, ◌<◌, ◌==◌, ◌⊎◌, if◌then◌else◌, List, [], ◌∷◌, Option, Some, None}
use Rattle.std.specs.Prelude.{nat_eq}
use Rattle.std.specs.List.{IsDistinct}
use Rattle.aio_model.specs.declared.holds.Hold.{Hold}
use Rattle.aio_model.specs.declared.holds.Hold.TheVariants.{Free, Reads, Writes, WaitsRead, WaitsWrite}
use Rattle.aio_model.specs.declared.holds.RwAnswer.{RwAnswer}
use Rattle.aio_model.specs.declared.holds.RwAnswer.TheVariants.{Got, Queued}
use Rattle.aio_model.specs.Holds.WhoHolds.{Holders, Readers, Writer, Ticket, ReadersWriter, waiting, hold_in, hold_of}

-- it reads or writes
abbrev pub Has : Hold → Type 0
Has Reads = Unit {0}
Has Writes = Unit {0}
Has Free = ⊥
Has WaitsRead = ⊥
Has WaitsWrite = ⊥

-- it has a ticket
abbrev pub HasTicket : Hold → Type 0
HasTicket WaitsRead = Unit {0}
HasTicket WaitsWrite = Unit {0}
HasTicket Free = ⊥
HasTicket Reads = ⊥
HasTicket Writes = ⊥

-- what a hold becomes when it is granted
abbrev pub granted : Hold → Hold
granted WaitsRead = Reads
granted WaitsWrite = Writes
granted Free = Free
granted Reads = Reads
granted Writes = Writes

-- what an owner's hold becomes where this one is woken: only its ticket is granted
abbrev pub after_wake : Option ℕ → ℕ → Hold → Hold
after_wake None who hold = hold
after_wake (Some woken) who hold = if who == woken then granted hold else hold

-- a hold is the same, or what was waited for
abbrev pub OnlyGranted : Hold → Hold → Type 0
OnlyGranted old new = (new ≡ old) ⊎ (new ≡ granted old)

-- the hold that goes with an answer
abbrev pub answered : RwAnswer → Hold → Hold → Hold
answered Got held waits = held
answered Queued held waits = waits

-- who writes is alone
abbrev pub WriterIsAlone : (ℕ → Hold) → Type 0
WriterIsAlone hold = (i j : ℕ) → hold i ≡ Writes → Has (hold j) → i ≡ j

-- each reader stands there once
abbrev pub ReadersAreOnce : Holders → Type 0
ReadersAreOnce (Readers readers) = IsDistinct nat_eq readers
ReadersAreOnce (Writer writer) = Unit {0}

-- each owner has one ticket at most
abbrev pub WaitOnce : List Ticket → Type 0
WaitOnce [] = Unit {0}
WaitOnce (ticket ∷ rest) = (waiting ticket.owner rest ≡ Free) × WaitOnce rest

-- nobody stands twice among holders and tickets
pub record IsOrderly (state : ReadersWriter) : Type 0 where
  pub once : ReadersAreOnce state.holders
  pub waits_once : WaitOnce state.tickets
  -- who holds doesn't wait
  pub apart : (who : ℕ) → Has (hold_in who state.holders Free) → waiting who state.tickets ≡ Free
  pub below : (who : ℕ) → hold_of state who ≢ Free → who < state.room

-- what holds of readers and a writer between any two calls
pub record IsSettled (state : ReadersWriter) : Type 0 where
  pub orderly : IsOrderly state
  -- nobody waits where nobody holds
  pub held : state.holders ≡ Readers [] → state.tickets ≡ []
