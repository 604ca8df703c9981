-- What a ring says.
use Rattle.std.specs.Prelude.{◌≡◌, ℕ, ◌+◌, ◌-◌, true, false, ◌++◌}
use Rattle.table_seats.specs.Dividing.{front_numbers, back_numbers, half_as_many}
use Rattle.aio_model.specs.declared.loops.flags.Flags.{Flags}
use Rattle.aio_model.specs.Loop.History.{ToCall, History}
use Rattle.aio_model.specs.Loop.Legal.{IsLegal}
use Rattle.aio_model.specs.Loop.Laws.{some_entry}
use Rattle.aio_model.specs.Loop.Seats.{own_entries}
use Rattle.aio_model.specs.Loop.Calls.{dequeue_times, stops, AwaitsCall}
use Rattle.aio_core.specs.Known.{numbers_of}
use Rattle.aio_core.specs.Calls.{TableState, SeatState}
use Rattle.aio_bh.specs.Enqueuing.{AddsOnly, enqueue_entries}
use Rattle.aio_bh.specs.Ready.{ComesBack}
use Rattle.doorbells.specs.Responding.{is_new}

-- a new ring: the doorbell awaits its answer, unless somebody canceled, deleted or dequeued it since
abbrev pub AwaitsUnless : ℕ → Flags → History → History → Type 0
AwaitsUnless bell found since seen =
    is_new found ≡ true → some_entry (stops bell) since ≡ false → dequeue_times bell since ≡ 0 → AwaitsCall bell seen

-- a seat rang once: just the entries of that ring were made under its number, and all else that it knows is as before
pub record Rings (table : TableState) (bell : ℕ) (found : Flags) (before after : SeatState) : Type 0 where
  pub back : ComesBack table before after
  pub stands : AddsOnly (enqueue_entries bell ToCall before.known.first found) before.known after.known
  pub awaits : AwaitsUnless bell found stands.stands.stands.rest after.known.seen

-- Two seats rang at once, each with a half of the numbers, and were joined: in one legal history stands each of the two rings once, and
-- nothing else of these numbers since.
pub record RingsTwice (table : TableState) (low high : ℕ) (found_low found_high : Flags) (before after : SeatState) : Type 0 where
  pub back : ComesBack table before after
  pub since : History
  pub seen : after.known.seen ≡ since ++ before.known.seen
  pub legal : IsLegal table.sizes after.known.seen
  pub by_low : own_entries (front_numbers (numbers_of before.known) (before.known.count - half_as_many before.known.count)) since ≡ enqueue_entries low ToCall before.known.first found_low
  pub by_high : own_entries (back_numbers (numbers_of before.known) (before.known.count - half_as_many before.known.count)) since ≡ enqueue_entries high ToCall (before.known.first + (before.known.count - half_as_many before.known.count)) found_high
  pub low_awaits : AwaitsUnless low found_low since after.known.seen
  pub high_awaits : AwaitsUnless high found_high since after.known.seen
