-- What each call on readers and a writer answers, whom it wakes, and what it leaves.
use Rattle.std.specs.Prelude.{ℕ, List, [], ◌∷◌, ◌++◌, Option, Some, None}
use Rattle.aio_model.specs.declared.holds.RwAnswer.{RwAnswer}
use Rattle.aio_model.specs.declared.holds.RwAnswer.TheVariants.{Got, Queued}
use Rattle.aio_model.specs.declared.holds.Wish.{Wish}
use Rattle.aio_model.specs.declared.holds.Wish.TheVariants as wish
use Rattle.aio_model.specs.Holds.WhoHolds.{Holders, Readers, Writer, Ticket, ReadersWriter, other_readers}

-- of a call that asks for a hold
pub record HoldAsked : Type 0 where
  pub answer : RwAnswer
  pub state : ReadersWriter

-- of a call that gives one up
pub record Woke : Type 0 where
  pub woken : Option ℕ
  pub state : ReadersWriter

-- of a call that does both
pub record Exchanged : Type 0 where
  pub answer : RwAnswer
  pub woken : Option ℕ
  pub state : ReadersWriter

-- a ticket more, behind all others
abbrev pub with_ticket : ℕ → Wish → ReadersWriter → ReadersWriter
with_ticket who wish state = record state { tickets = state.tickets ++ record { owner = who; wish = wish } ∷ [] }

-- A reader is let in where nobody holds, and beside readers where nobody waits.
abbrev pub read_by : ℕ → ReadersWriter → Holders → List Ticket → HoldAsked
read_by who state (Readers []) tickets = record { answer = Got; state = record state { holders = Readers (who ∷ []) } }
read_by who state (Readers (r ∷ rs)) [] = record { answer = Got; state = record state { holders = Readers (r ∷ rs ++ who ∷ []) } }
read_by who state (Readers (r ∷ rs)) (t ∷ ts) = record { answer = Queued; state = with_ticket who wish.Read state }
read_by who state (Writer writer) tickets = record { answer = Queued; state = with_ticket who wish.Read state }

abbrev pub read_locked : ℕ → ReadersWriter → HoldAsked
read_locked who state = read_by who state state.holders state.tickets

-- A writer is let in where nobody holds.
abbrev pub written_by : ℕ → ReadersWriter → Holders → HoldAsked
written_by who state (Readers []) = record { answer = Got; state = record state { holders = Writer who } }
written_by who state (Readers (r ∷ rs)) = record { answer = Queued; state = with_ticket who wish.Write state }
written_by who state (Writer writer) = record { answer = Queued; state = with_ticket who wish.Write state }

abbrev pub write_locked : ℕ → ReadersWriter → HoldAsked
write_locked who state = written_by who state state.holders

abbrev pub none_woken : ReadersWriter → Woke
none_woken state = record { woken = None; state = state }

-- The first ticket is granted where it can be: a reader's where nobody writes, a writer's where nobody holds.
abbrev pub granted_to : ℕ → Wish → ReadersWriter → Holders → List Ticket → Woke
granted_to who wish.Read state (Readers readers) rest =
    record { woken = Some who; state = record state { holders = Readers (readers ++ who ∷ []); tickets = rest } }
granted_to who wish.Write state (Readers []) rest =
    record { woken = Some who; state = record state { holders = Writer who; tickets = rest } }
granted_to who wish.Write state (Readers (r ∷ rs)) rest = none_woken state
granted_to who wish state (Writer writer) rest = none_woken state

abbrev pub wake_first : ReadersWriter → List Ticket → Woke
wake_first state [] = none_woken state
wake_first state (ticket ∷ rest) = granted_to ticket.owner ticket.wish state state.holders rest

abbrev pub wake_one : ReadersWriter → Woke
wake_one state = wake_first state state.tickets

abbrev pub without_holder : ℕ → Holders → Holders
without_holder who (Readers readers) = Readers (other_readers who readers)
without_holder who (Writer writer) = Readers []

-- without this holder
abbrev pub released : ℕ → ReadersWriter → ReadersWriter
released who state = record state { holders = without_holder who state.holders }

abbrev pub unlocked : ℕ → ReadersWriter → Woke
unlocked who state = wake_one (released who state)

-- the one reader
abbrev pub with_reader : ℕ → ReadersWriter → ReadersWriter
with_reader who state = record state { holders = Readers (who ∷ []) }

abbrev pub downgraded : ℕ → ReadersWriter → Woke
downgraded who state = wake_one (with_reader who state)

-- it gives its hold up, and waits to write behind all others
abbrev pub stepped_back : ℕ → ReadersWriter → ReadersWriter
stepped_back who state = with_ticket who wish.Write (released who state)

abbrev pub queued_again : Woke → Exchanged
queued_again woke = record { answer = Queued; woken = woke.woken; state = woke.state }

-- Who reads alone while nobody waits writes at once. Else it steps back.
abbrev pub upgraded_by : ℕ → ReadersWriter → Holders → List Ticket → Exchanged
upgraded_by who state (Readers (r ∷ [])) [] = record { answer = Got; woken = None; state = record state { holders = Writer who } }
upgraded_by who state holders tickets = queued_again (wake_one (stepped_back who state))

abbrev pub upgraded : ℕ → ReadersWriter → Exchanged
upgraded who state = upgraded_by who state state.holders state.tickets
