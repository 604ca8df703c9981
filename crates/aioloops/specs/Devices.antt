-- Which device the program makes.
use Rattle.std.specs.Prelude.{◌≡◌, ℕ, List, length, Option, Some, None}
use Rattle.real_ends.specs.declared.any_device.AnyDevice.{AnyDevice}
use Rattle.real_ends.specs.declared.any_device.AnyDevice.TheVariants.{Mem, File}

-- so many bytes in memory
abbrev pub IsMemory : ℕ → AnyDevice → Type 0
IsMemory len (Mem device) = length device.bytes ≡ len
IsMemory len (File device) = ⊥

abbrev pub IsFile : AnyDevice → Type 0
IsFile (Mem device) = ⊥
IsFile (File device) = Unit {0}

-- a file where the words tell a path, and else memory
abbrev pub IsNamedDevice : ℕ → Option (List ℕ) → AnyDevice → Type 0
IsNamedDevice len None device = IsMemory len device
IsNamedDevice len (Some path) device = IsFile device
