-- A raw file as a device, as contracts see it.
use Rattle.std.specs.Prelude.{ℕ, Bool, List}
use Rattle.aio_words.specs.declared.called.DeviceCall.{DeviceCall}

pub record FileState : Type 0 where
  -- whether there is a file; each call fails where there is none
  pub is_open : Bool
  -- how many bytes the file had when it was opened; none where it couldn't be
  pub extent : ℕ
  -- how many calls of `size` failed
  pub size_faults : ℕ
  -- how many other calls failed
  pub faults : ℕ
  -- the calls, the newest first
  pub called : List DeviceCall
