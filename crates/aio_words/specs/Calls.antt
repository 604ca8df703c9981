-- Calls of the objects in memory. Each object numbers its calls from 0, and is given the numbers of those that fail.
use Rattle.std.specs.Prelude.{ℕ, ◌+◌, ◌-◌, ◌^◌, ◌==◌, Bool, List}
use Rattle.std.specs.List.{list_any}

-- the call of this number is one of those that fail
abbrev pub is_listed : List ℕ → ℕ → Bool
is_listed fails call = list_any (λ listed. listed == call) fails
