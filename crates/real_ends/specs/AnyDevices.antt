-- A device in memory or a raw file, as contracts see it.
use Rattle.std.specs.Prelude.{◌≡◌, ℕ, List, length, Option, Some, None, IfSome, refl}
use Rattle.aio_words.specs.declared.called.DeviceCall.{DeviceCall}
use Rattle.real_ends.specs.declared.any_device.AnyDevice.{AnyDevice}
use Rattle.real_ends.specs.declared.any_device.AnyDevice.TheVariants.{Mem, File}

abbrev pub extent_of : AnyDevice → ℕ
extent_of (Mem device) = length device.bytes
extent_of (File device) = device.extent

abbrev pub bytes_of : AnyDevice → Option (List ℕ)
bytes_of (Mem device) = Some device.bytes
bytes_of (File device) = None

abbrev pub size_faults_of : AnyDevice → ℕ
size_faults_of (Mem device) = device.size_faults
size_faults_of (File device) = device.size_faults

abbrev pub faults_of : AnyDevice → ℕ
faults_of (Mem device) = device.faults
faults_of (File device) = device.faults

abbrev pub calls_of : AnyDevice → List DeviceCall
calls_of (Mem device) = device.called
calls_of (File device) = device.called

-- the bytes that are told are as many as the device has
pub as_many : (device : AnyDevice) → IfSome (bytes_of device) (λ told. length told ≡ extent_of device)
as_many (Mem device) = refl
as_many (File device) = tt
