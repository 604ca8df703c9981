-- What a new table is.
use Rattle.std.specs.Prelude.{◌≡◌, ℕ, ◌<◌, List, [], length, slice_index}
use Rattle.aio_model.specs.Loop.History.{Sizes}
use Rattle.aio_core.specs.Calls.{TableState, SeatState, first_seat, first_home}
use Rattle.aio_core.specs.Words.{head_at, notified_at, notify_me_at, notifier_at, event_at, flags_at, index_count, word_count, flags_word}

-- the words of a new table
pub record AreFirst (sizes : Sizes) (words : List ℕ) : Type 0 where
  pub long : length words ≡ word_count sizes
  pub head : slice_index words head_at ≡ 0
  pub notified : slice_index words notified_at ≡ 0
  pub notify_me : slice_index words notify_me_at ≡ 0
  pub notifier : slice_index words notifier_at ≡ 0
  pub events : (e : ℕ) → e < 64 → slice_index words (event_at e) ≡ 0
  pub flags : (i : ℕ) → i < index_count sizes → slice_index words (flags_at i) ≡ flags_word sizes i []

-- a new table, its home's seat, and one with all other numbers; nothing was done
pub record IsNew (sizes : Sizes) (table : TableState) (home seat : SeatState) : Type 0 where
  pub sizes_are : table.sizes ≡ sizes
  pub home_of : home.table ≡ table.table
  pub home_is : home.known ≡ first_home sizes
  pub seat_of : seat.table ≡ table.table
  pub seat_is : seat.known ≡ first_seat sizes
