-- The calls that an object of the outside had, the newest first. Each is told with what was asked and what came of it.
use Rattle.std.specs.Prelude.{ℕ, ◌+◌, Bool, true, false, if◌then◌else◌, Result, Ok, Err, Some, None, List, [], ◌∷◌}
use Rattle.aio_words.specs.declared.called.SourceCall.{SourceCall}
use Rattle.aio_words.specs.declared.called.SinkCall.{SinkCall}
use Rattle.aio_words.specs.declared.called.DeviceAsk.{DeviceAsk}
use Rattle.aio_words.specs.declared.called.DeviceAsk.TheVariants.{Size, Read, Write, Flush}
use Rattle.aio_words.specs.declared.called.DeviceCall.{DeviceCall}

-- a read with so much room, which gave this answer
abbrev pub read_call : {E : Type 0} → ℕ → Result ℕ E → SourceCall
read_call room (Ok n) = record { room = room; got = Some n }
read_call room (Err failed) = record { room = room; got = None }

-- a write of so many bytes
abbrev pub write_call : ℕ → Bool → SinkCall
write_call length failed = record { length = length; failed = failed }

-- a call of a device
abbrev pub device_call : DeviceAsk → Bool → DeviceCall
device_call ask failed = record { ask = ask; failed = failed }

abbrev pub is_size : DeviceAsk → Bool
is_size Size = true
is_size (Read at length) = false
is_size (Write at length) = false
is_size Flush = false

-- how many of the calls asked for the device's size
abbrev pub sizes_asked : List DeviceCall → ℕ
sizes_asked [] = 0
sizes_asked (call ∷ older) = if is_size call.ask then sizes_asked older + 1 else sizes_asked older

-- how many of the calls failed
abbrev pub failures_in : List DeviceCall → ℕ
failures_in [] = 0
failures_in (call ∷ older) = if call.failed then failures_in older + 1 else failures_in older
