-- Which row of the table a test leads to.
use Rattle.std.proofs.Common.{◌≡◌, ℕ, true, false, List, [], ◌∷◌, ◌++◌, None, refl, ◌∙◌, inl, inr, eqb}
use Rattle.std.proofs.lemmas.Bool.{cases_Bool}
use Rattle.aio_model.specs.declared.holds.RwAnswer.TheVariants.{Got, Queued}
use Rattle.aio_model.specs.declared.holds.Hold.TheVariants.{Reads}
use Rattle.aio_model.specs.declared.holds.Wish.TheVariants as wish
use Rattle.aio_model.specs.Holds.WhoHolds.{Holders, Readers, Writer, Ticket, ReadersWriter, waiting, hold_in, hold_of}
use Rattle.aio_model.specs.Holds.Table.{with_ticket, read_by, read_locked, written_by, write_locked, without_holder, wake_one, stepped_back, queued_again, upgraded_by, upgraded}
use Rattle.co_waits.specs.Registers.{is_written, readers_in, is_vacant, lets_readers_in, is_single}

opened : (who : ℕ) (state : ReadersWriter) (holders : Holders) (tickets : List Ticket) → lets_readers_in holders tickets ≡ true → read_by who state holders tickets ≡ record { answer = Got; state = record state { holders = Readers (readers_in holders ++ who ∷ []) } }
opened who state (Readers []) tickets e = refl
opened who state (Readers (r ∷ rs)) [] e = refl
opened who state (Readers (r ∷ rs)) (t ∷ ts) e = absurd (cc e)
opened who state (Writer writer) tickets e = absurd (cc e)

pub opens : (who : ℕ) (state : ReadersWriter) → lets_readers_in state.holders state.tickets ≡ true → read_locked who state ≡ record { answer = Got; state = record state { holders = Readers (readers_in state.holders ++ who ∷ []) } }
opens who state e = opened who state state.holders state.tickets e

pub open_unwritten : (holders : Holders) (tickets : List Ticket) → lets_readers_in holders tickets ≡ true → is_written holders ≡ false
open_unwritten (Readers readers) tickets e = refl
open_unwritten (Writer writer) tickets e = absurd (cc e)

closed : (who : ℕ) (state : ReadersWriter) (holders : Holders) (tickets : List Ticket) → lets_readers_in holders tickets ≡ false → read_by who state holders tickets ≡ record { answer = Queued; state = with_ticket who wish.Read state }
closed who state (Readers []) tickets e = absurd (cc e)
closed who state (Readers (r ∷ rs)) [] e = absurd (cc e)
closed who state (Readers (r ∷ rs)) (t ∷ ts) e = refl
closed who state (Writer writer) tickets e = refl

pub closes : (who : ℕ) (state : ReadersWriter) → lets_readers_in state.holders state.tickets ≡ false → read_locked who state ≡ record { answer = Queued; state = with_ticket who wish.Read state }
closes who state e = closed who state state.holders state.tickets e

vacated : (who : ℕ) (state : ReadersWriter) (holders : Holders) → is_vacant holders ≡ true → written_by who state holders ≡ record { answer = Got; state = record state { holders = Writer who } }
vacated who state (Readers []) e = refl
vacated who state (Readers (r ∷ rs)) e = absurd (cc e)
vacated who state (Writer writer) e = absurd (cc e)

pub vacates : (who : ℕ) (state : ReadersWriter) → is_vacant state.holders ≡ true → write_locked who state ≡ record { answer = Got; state = record state { holders = Writer who } }
vacates who state e = vacated who state state.holders e

filled : (who : ℕ) (state : ReadersWriter) (holders : Holders) → is_vacant holders ≡ false → written_by who state holders ≡ record { answer = Queued; state = with_ticket who wish.Write state }
filled who state (Readers []) e = absurd (cc e)
filled who state (Readers (r ∷ rs)) e = refl
filled who state (Writer writer) e = refl

pub fills : (who : ℕ) (state : ReadersWriter) → is_vacant state.holders ≡ false → write_locked who state ≡ record { answer = Queued; state = with_ticket who wish.Write state }
fills who state e = filled who state state.holders e

pub gone_unwritten : (who : ℕ) (holders : Holders) → is_written (without_holder who holders) ≡ false
gone_unwritten who (Readers readers) = refl
gone_unwritten who (Writer writer) = refl

single : (who : ℕ) (state : ReadersWriter) (holders : Holders) (tickets : List Ticket) → is_single holders tickets ≡ true → upgraded_by who state holders tickets ≡ record { answer = Got; woken = None; state = record state { holders = Writer who } }
single who state (Readers (r ∷ [])) [] e = refl
single who state (Readers (r ∷ [])) (t ∷ ts) e = absurd (cc e)
single who state (Readers (r ∷ q ∷ rs)) tickets e = absurd (cc e)
single who state (Readers []) tickets e = absurd (cc e)
single who state (Writer writer) tickets e = absurd (cc e)

pub rises : (who : ℕ) (state : ReadersWriter) → is_single state.holders state.tickets ≡ true → upgraded who state ≡ record { answer = Got; woken = None; state = record state { holders = Writer who } }
rises who state e = single who state state.holders state.tickets e

several : (who : ℕ) (state : ReadersWriter) (holders : Holders) (tickets : List Ticket) → is_single holders tickets ≡ false → upgraded_by who state holders tickets ≡ queued_again (wake_one (stepped_back who state))
several who state (Readers (r ∷ [])) [] e = absurd (cc e)
several who state (Readers (r ∷ [])) (t ∷ ts) e = refl
several who state (Readers (r ∷ q ∷ rs)) tickets e = refl
several who state (Readers []) tickets e = refl
several who state (Writer writer) tickets e = refl

pub steps_back : (who : ℕ) (state : ReadersWriter) → is_single state.holders state.tickets ≡ false → upgraded who state ≡ queued_again (wake_one (stepped_back who state))
steps_back who state e = several who state state.holders state.tickets e

-- the one reader leaves nobody
only_one : (who : ℕ) (holders : Holders) (tickets : List Ticket) → is_single holders tickets ≡ true → hold_in who holders (waiting who tickets) ≡ Reads → is_vacant (without_holder who holders) ≡ true
only_one who (Readers (r ∷ [])) [] e reads = elim (cases_Bool (eqb who r)) [
  | inl same ↦ rw same refl
  | inr other ↦ absurd (cc (rw other at reads))
]
only_one who (Readers (r ∷ [])) (t ∷ ts) e reads = absurd (cc e)
only_one who (Readers (r ∷ q ∷ rs)) tickets e reads = absurd (cc e)
only_one who (Readers []) tickets e reads = absurd (cc e)
only_one who (Writer writer) tickets e reads = absurd (cc e)

pub one_leaves : (who : ℕ) (state : ReadersWriter) → is_single state.holders state.tickets ≡ true → hold_of state who ≡ Reads → is_vacant (without_holder who state.holders) ≡ true
one_leaves who state e reads = only_one who state.holders state.tickets e reads
