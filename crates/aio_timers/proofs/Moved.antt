-- Keys that move from one row to another, one at a time.
use Rattle.std.proofs.Common.{◌≡◌, ℕ, ◌<◌, ◌≤◌, ◌⊎◌, ltb, List, length, count_by}
use Rattle.aio_timers.specs.Keys.{none, key_at}

-- how many keys a row has
abbrev pub keys_in : List ℕ → ℕ
keys_in keys = count_by (λ key. ltb key none) keys

module _ (from to : List ℕ) (last : ℕ) where
  -- what has become of a key so far
  abbrev pub SoFar : ℕ → ℕ → ℕ → ℕ → Type 0
  SoFar f t f' t' = ((f' ≡ f) × (t' ≡ t)) ⊎ ((f < none) × (f ≤ last) × (f' ≡ none) × (t' ≡ f))

  pub record Moving (from' to' : List ℕ) : Type 0 where
    pub from_sized : length from' ≡ length from
    pub to_sized : length to' ≡ length to
    pub each : (place : ℕ) → SoFar (key_at from place) (key_at to place) (key_at from' place) (key_at to' place)
