-- Stamps that are given anew.
use Rattle.std.specs.Prelude.{◌≡◌, ℕ, ◌<◌, ◌/◌, ◌%◌, ◌*◌, ◌+◌, nat_lt, Bool, if◌then◌else◌, List, length, count_by}
use Rattle.aio_timers.specs.Keys.{none, stamps, key_at, joint}

-- the key has a stamp below this
abbrev pub is_older : ℕ → ℕ → Bool
is_older stamp key = nat_lt (key % stamps) stamp

-- how many keys of two rows have a stamp below this
abbrev pub rank_in : List ℕ → List ℕ → ℕ → ℕ
rank_in due waiting stamp = count_by (is_older stamp) due + count_by (is_older stamp) waiting

-- the key with another stamp
abbrev pub restamped : ℕ → ℕ → ℕ
restamped key stamp = if nat_lt key none then key / stamps * stamps + stamp else key

-- the same timers have keys, with the same expiries and in the same order
pub record Restamps (due waiting due' waiting' : List ℕ) : Type 0 where
  pub due_sized : length due' ≡ length due
  pub waiting_sized : length waiting' ≡ length waiting
  pub due_keys : (timer : ℕ) → nat_lt (key_at due' timer) none ≡ nat_lt (key_at due timer) none
  pub waiting_keys : (timer : ℕ) → nat_lt (key_at waiting' timer) none ≡ nat_lt (key_at waiting timer) none
  pub expiries : (timer : ℕ) → joint due waiting timer < none → joint due' waiting' timer / stamps ≡ joint due waiting timer / stamps
  pub order : (first second : ℕ) → joint due waiting first < none → joint due waiting second < none
      → joint due' waiting' first < joint due' waiting' second → joint due waiting first < joint due waiting second
