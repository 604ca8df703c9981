-- How counts of faults join over several calls.
use Rattle.std.proofs.Common.{ℕ, ◌+◌, ◌≤◌, arith}
use Rattle.aio_words.specs.Faults.{HasRisenBy, HasRisen}

pub HasRisen-earlier : (earlier before now : ℕ) → earlier ≤ before → HasRisen before now → HasRisen earlier now
HasRisen-earlier earlier before now kept risen = omega arith

-- a count of one object that has risen by more
pub HasRisen-from_more : (n before now : ℕ) → 1 ≤ n → HasRisenBy n before now → HasRisen before now
HasRisen-from_more n before now some risen = omega arith

pub HasRisenBy-add : (m n before between now : ℕ)
    → HasRisenBy m before between → HasRisenBy n between now → HasRisenBy (m + n) before now
HasRisenBy-add m n before between now first second = omega arith
