-- Keys that move from one row to another.
use Rattle.std.specs.Prelude.{◌≡◌, ℕ, ◌<◌, ◌≤◌, List, length}
use Rattle.aio_timers.specs.Keys.{none, key_at}

-- a key up to the last went over, and any other stayed
pub record IsMoved (from to from' to' last : ℕ) : Type 0 where
  pub taken : from < none → from ≤ last → (from' ≡ none) × (to' ≡ from)
  pub left : (from < none → last < from) → (from' ≡ from) × (to' ≡ to)

pub record Moves (from to from' to' : List ℕ) (last : ℕ) : Type 0 where
  pub from_sized : length from' ≡ length from
  pub to_sized : length to' ≡ length to
  pub each : (place : ℕ) → IsMoved (key_at from place) (key_at to place) (key_at from' place) (key_at to' place) last
