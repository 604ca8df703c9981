-- When a table is refused.
use Rattle.std.specs.Prelude.{◌≡◌, ℕ, ◌+◌, nat_lt, if◌then◌else◌, Option, Some, None}
use Rattle.aio_model.specs.Loop.History.{Sizes}
use Rattle.aio_core.specs.declared.refusal.BuildRefusal.{BuildRefusal}
use Rattle.aio_core.specs.declared.refusal.BuildRefusal.TheVariants.{TooMany, NoMemory}

-- the number that is too large for a table, if there is one
abbrev pub excess_of : Sizes → Option ℕ
excess_of sizes =
    if nat_lt 4096 (sizes.handles + sizes.lots) then Some (sizes.handles + sizes.lots) else if nat_lt 64 sizes.events then Some sizes.events else None

-- memory is short only where no number is too large
abbrev pub IsRefusal : Sizes → BuildRefusal → Type 0
IsRefusal sizes (TooMany n) = excess_of sizes ≡ Some n
IsRefusal sizes NoMemory = excess_of sizes ≡ None
