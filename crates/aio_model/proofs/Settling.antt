-- Each call that asks for a hold keeps readers and a writer settled.
use Rattle.std.proofs.Common.{◌≡◌, ℕ, ◌<◌, List, [], ◌∷◌, refl}
use Rattle.aio_model.specs.declared.holds.Hold.TheVariants.{Free}
use Rattle.aio_model.specs.declared.holds.Wish.TheVariants as wish
use Rattle.aio_model.specs.Holds.WhoHolds.{Holders, Readers, Writer, Ticket, ReadersWriter, waiting, hold_in, hold_of}
use Rattle.aio_model.specs.Holds.{IsOrderly, IsSettled}
use Rattle.aio_model.specs.Holds.Table.{read_by, read_locked, written_by, write_locked}
use Rattle.aio_model.proofs.Orderly.{free_no_reader, admits_reader, admits_writer, queues}

module _ (room who : ℕ) (within : who < room) where
  abbrev stand : Holders → List Ticket → ReadersWriter
  stand holders tickets = record { room = room; holders = holders; tickets = tickets }

  reads_settle : (holders : Holders) (tickets : List Ticket) → IsOrderly (stand holders tickets) → hold_in who holders (waiting who tickets) ≡ Free → IsSettled (read_by who (stand holders tickets) holders tickets).state
  reads_settle (Readers []) tickets ok free = record { orderly = admits_reader room who [] tickets ok within refl free; held = λ e. absurd (cc e) }
  reads_settle (Readers (r ∷ rs)) [] ok free = record { orderly = admits_reader room who (r ∷ rs) [] ok within (free_no_reader who (r ∷ rs) Free free) refl; held = λ e. absurd (cc e) }
  reads_settle (Readers (r ∷ rs)) (t ∷ ts) ok free = record { orderly = queues room who wish.Read (Readers (r ∷ rs)) (t ∷ ts) ok within free; held = λ e. absurd (cc e) }
  reads_settle (Writer writer) tickets ok free = record { orderly = queues room who wish.Read (Writer writer) tickets ok within free; held = λ e. absurd (cc e) }

  writes_settle : (holders : Holders) (tickets : List Ticket) → IsOrderly (stand holders tickets) → hold_in who holders (waiting who tickets) ≡ Free → IsSettled (written_by who (stand holders tickets) holders).state
  writes_settle (Readers []) tickets ok free = record { orderly = admits_writer room who tickets ok within free; held = λ e. absurd (cc e) }
  writes_settle (Readers (r ∷ rs)) tickets ok free = record { orderly = queues room who wish.Write (Readers (r ∷ rs)) tickets ok within free; held = λ e. absurd (cc e) }
  writes_settle (Writer writer) tickets ok free = record { orderly = queues room who wish.Write (Writer writer) tickets ok within free; held = λ e. absurd (cc e) }

pub read_locked_settles : (state : ReadersWriter) (who : ℕ) → IsOrderly state → who < state.room → hold_of state who ≡ Free → IsSettled (read_locked who state).state
read_locked_settles state who ok within free = reads_settle state.room who within state.holders state.tickets ok free

pub write_locked_settles : (state : ReadersWriter) (who : ℕ) → IsOrderly state → who < state.room → hold_of state who ≡ Free → IsSettled (write_locked who state).state
write_locked_settles state who ok within free = writes_settle state.room who within state.holders state.tickets ok free

reads_room : (who : ℕ) (state : ReadersWriter) (holders : Holders) (tickets : List Ticket) → (read_by who state holders tickets).state.room ≡ state.room
reads_room who state (Readers []) tickets = refl
reads_room who state (Readers (r ∷ rs)) [] = refl
reads_room who state (Readers (r ∷ rs)) (t ∷ ts) = refl
reads_room who state (Writer writer) tickets = refl

writes_room : (who : ℕ) (state : ReadersWriter) (holders : Holders) → (written_by who state holders).state.room ≡ state.room
writes_room who state (Readers []) = refl
writes_room who state (Readers (r ∷ rs)) = refl
writes_room who state (Writer writer) = refl

pub read_locked_room : (state : ReadersWriter) (who : ℕ) → (read_locked who state).state.room ≡ state.room
read_locked_room state who = reads_room who state state.holders state.tickets

pub write_locked_room : (state : ReadersWriter) (who : ℕ) → (write_locked who state).state.room ≡ state.room
write_locked_room state who = writes_room who state state.holders
