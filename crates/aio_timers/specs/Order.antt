-- Timers in the order of their keys.
use Rattle.std.specs.Prelude.{ℕ, zero, suc, ◌/◌, nat_lt, if◌then◌else◌, List, [], ◌∷◌, ◌++◌}
use Rattle.aio_timers.specs.Keys.{none, stamps}

-- the list with a timer more, before all that have a greater key
abbrev pub put_in_order : (ℕ → ℕ) → ℕ → List ℕ → List ℕ
put_in_order keys timer [] = timer ∷ []
put_in_order keys timer (first ∷ rest) =
    if nat_lt (keys timer) (keys first) then timer ∷ first ∷ rest else first ∷ put_in_order keys timer rest

-- the timers below a number that have keys
abbrev pub in_order : (ℕ → ℕ) → ℕ → List ℕ
in_order keys zero = []
in_order keys (suc timer) =
    if nat_lt (keys timer) none then put_in_order keys timer (in_order keys timer) else in_order keys timer

-- the expiries of the timers below a number
abbrev pub expiries_of : (ℕ → ℕ) → ℕ → List ℕ
expiries_of keys zero = []
expiries_of keys (suc timer) = expiries_of keys timer ++ keys timer / stamps ∷ []
