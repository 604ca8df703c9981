-- A count of u64s.
use Rattle.std.specs.Prelude.{◌+◌, ◌-◌, ◌^◌}
