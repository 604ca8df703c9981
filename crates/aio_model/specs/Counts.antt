-- Counts that stay at the greatest u64.
use Rattle.std.specs.Prelude.{ℕ, ◌+◌, ◌-◌, ◌^◌, min}

abbrev pub counted : ℕ → ℕ
counted n = min n (2 ^ 64 - 1)

-- a count that is one higher
abbrev pub one_more : ℕ → ℕ
one_more count = min (count + 1) (2 ^ 64 - 1)
