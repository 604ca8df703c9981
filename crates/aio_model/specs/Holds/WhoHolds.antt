-- Readers and a writer: who holds, and who waits.
use Rattle.std.specs.Prelude.{◌≡◌, ℕ, ◌==◌, nat_eq, not, Bool, if◌then◌else◌, List, [], ◌∷◌}
use Rattle.std.specs.List.{list_any, filter}
use Rattle.aio_model.specs.declared.holds.Hold.{Hold}
use Rattle.aio_model.specs.declared.holds.Hold.TheVariants.{Free, Reads, Writes, WaitsRead, WaitsWrite}
use Rattle.aio_model.specs.declared.holds.Wish.{Wish}
use Rattle.aio_model.specs.declared.holds.Wish.TheVariants as wish

-- Either some read, or one writes. So who writes is alone.
pub data Holders : Type 0 where
  Readers : List ℕ → Holders
  Writer : ℕ → Holders

-- what an owner waits for
pub record Ticket : Type 0 where
  pub owner : ℕ
  pub wish : Wish

-- the tickets in order of arrival; all owners are below the room
pub record ReadersWriter : Type 0 where
  pub room : ℕ
  pub holders : Holders
  pub tickets : List Ticket

abbrev pub is_reader : ℕ → List ℕ → Bool
is_reader who readers = list_any (nat_eq who) readers

-- all readers but this one
abbrev pub other_readers : ℕ → List ℕ → List ℕ
other_readers who readers = filter (λ reader. not (nat_eq who reader)) readers

abbrev pub waits_by : Wish → Hold
waits_by wish.Read = WaitsRead
waits_by wish.Write = WaitsWrite

-- what an owner waits for, by its ticket; `Free` without one
abbrev pub waiting : ℕ → List Ticket → Hold
waiting who [] = Free
waiting who (ticket ∷ rest) = if who == ticket.owner then waits_by ticket.wish else waiting who rest

-- what an owner has of the holders; else as it waits
abbrev pub hold_in : ℕ → Holders → Hold → Hold
hold_in who (Readers readers) waits = if is_reader who readers then Reads else waits
hold_in who (Writer writer) waits = if who == writer then Writes else waits

abbrev pub hold_of : ReadersWriter → ℕ → Hold
hold_of state who = hold_in who state.holders (waiting who state.tickets)
