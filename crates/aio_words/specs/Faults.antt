-- Counts of faults. An object's count rises at each of its calls that fails, and never falls. A count that has
-- reached the greatest u64 stands still there, and counts as risen.
use Rattle.std.specs.Prelude.{ℕ, ◌+◌, ◌-◌, ◌^◌, ◌≤◌, min}

-- at least n calls failed between the two counts
abbrev pub HasRisenBy : ℕ → ℕ → ℕ → Type 0
HasRisenBy n before now = min (before + n) (2 ^ 64 - 1) ≤ now

abbrev pub HasRisen : ℕ → ℕ → Type 0
HasRisen before now = HasRisenBy 1 before now
