-- What stands outside of the program: its source, its sink and its device, and what they tell of themselves at one moment.
use Rattle.std.specs.Prelude.{◌≡◌, ℕ, ◌≤◌, List, Option}
use Rattle.aio_words.specs.declared.called.SourceCall.{SourceCall}
use Rattle.aio_words.specs.declared.called.DeviceCall.{DeviceCall}

pub record Outside (S K D : Type 0) : Type 0 where
  -- the source, what it has left where it tells its text, its calls, and how many of these failed
  pub source : S
  pub left : Option (List ℕ)
  pub reads : List SourceCall
  pub read_faults : ℕ
  -- the sink, what it holds where it tells that, and how many of its calls failed
  pub sink : K
  pub held : Option (List ℕ)
  pub write_faults : ℕ
  -- the device, its bytes where it tells them, its calls, how many of these failed, how many questions for its size failed, and its size
  pub device : D
  pub bytes : Option (List ℕ)
  pub calls : List DeviceCall
  pub faults : ℕ
  pub size_faults : ℕ
  pub extent : ℕ

-- no count falls, and the device has its size
pub record GoesOutside {S K D : Type 0} (before after : Outside S K D) : Type 0 where
  pub reads : before.read_faults ≤ after.read_faults
  pub writes : before.write_faults ≤ after.write_faults
  pub faults : before.faults ≤ after.faults
  pub sizes : before.size_faults ≤ after.size_faults
  pub extent : after.extent ≡ before.extent
