-- How a register keeps readers and a writer.
use Rattle.std.specs.Prelude.{◌≡◌, ℕ, ◌&&◌, Bool, true, false, get_or, List, [], ◌∷◌, length, Option, Some, None}
use Rattle.aio_chain.specs.LinkList.{LinkList}
use Rattle.aio_model.specs.declared.holds.Wish.{Wish}
use Rattle.aio_model.specs.declared.holds.Wish.TheVariants as wish
use Rattle.aio_model.specs.Holds.WhoHolds.{Holders, Readers, Writer, Ticket, ReadersWriter}
use Rattle.aio_model.specs.Holds.{IsOrderly}

-- the ticket of an owner that waits
abbrev pub ticket_of : List Wish → ℕ → Ticket
ticket_of wishes who = record { owner = who; wish = get_or wishes who wish.Read }

abbrev pub tickets_of : List Wish → List ℕ → List Ticket
tickets_of wishes [] = []
tickets_of wishes (who ∷ rest) = ticket_of wishes who ∷ tickets_of wishes rest

abbrev pub holders_of : Option ℕ → List ℕ → Holders
holders_of None readers = Readers readers
holders_of (Some writer) readers = Writer writer

abbrev pub state_in : LinkList → Option ℕ → LinkList → List Wish → ReadersWriter
state_in readers writer tickets wishes =
    record { room = tickets.room; holders = holders_of writer readers.items; tickets = tickets_of wishes tickets.items }

-- nobody reads while somebody writes
abbrev pub NoReaders : Option ℕ → List ℕ → Type 0
NoReaders None readers = Unit {0}
NoReaders (Some writer) readers = readers ≡ []

pub record AreKept (readers : LinkList) (writer : Option ℕ) (tickets : LinkList) (wishes : List Wish) : Type 0 where
  pub rooms : readers.room ≡ tickets.room
  pub sized : length wishes ≡ tickets.room
  pub alone : NoReaders writer readers.items
  pub orderly : IsOrderly (state_in readers writer tickets wishes)

-- somebody writes
abbrev pub is_written : Holders → Bool
is_written (Readers readers) = false
is_written (Writer writer) = true

abbrev pub readers_in : Holders → List ℕ
readers_in (Readers readers) = readers
readers_in (Writer writer) = []

-- nobody holds
abbrev pub is_vacant : Holders → Bool
is_vacant (Readers []) = true
is_vacant (Readers (r ∷ rs)) = false
is_vacant (Writer writer) = false

-- a reader may come in
abbrev pub lets_readers_in : Holders → List Ticket → Bool
lets_readers_in (Readers []) tickets = true
lets_readers_in (Readers (r ∷ rs)) [] = true
lets_readers_in (Readers (r ∷ rs)) (t ∷ ts) = false
lets_readers_in (Writer writer) tickets = false

-- one reads, and nobody waits
abbrev pub is_single : Holders → List Ticket → Bool
is_single (Readers (r ∷ [])) [] = true
is_single (Readers (r ∷ [])) (t ∷ ts) = false
is_single (Readers (r ∷ q ∷ rs)) tickets = false
is_single (Readers []) tickets = false
is_single (Writer writer) tickets = false
