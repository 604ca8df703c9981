-- A device in memory, as contracts see it.
use Rattle.std.specs.Prelude.{ℕ, List}
use Rattle.aio_words.specs.declared.called.DeviceCall.{DeviceCall}

pub record DeviceState : Type 0 where
  pub bytes : List ℕ
  -- the numbers of the calls that fail, in one row for all kinds of call
  pub fails : List ℕ
  -- how many calls there were: the number of the next
  pub calls : ℕ
  -- how many calls of `size` failed
  pub size_faults : ℕ
  -- how many other calls failed
  pub faults : ℕ
  -- the calls, the newest first
  pub called : List DeviceCall
