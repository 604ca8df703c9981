-- What an object outside holds, where it tells it. The objects in memory tell; the real ones don't, and then these
-- say nothing.
use Rattle.std.specs.Prelude.{◌≡◌, ℕ, List, ◌++◌, Option, option_map}

-- these bytes were taken from the front of what was left
abbrev pub TakesBytes : Option (List ℕ) → Option (List ℕ) → List ℕ → Type 0
TakesBytes before now taken = before ≡ option_map (λ left. taken ++ left) now

-- what was held, and behind it this piece
abbrev pub with_piece : List ℕ → Option (List ℕ) → Option (List ℕ)
with_piece piece before = option_map (λ held. held ++ piece) before

-- what was held, and behind it a front of this piece
pub record AppendsFront (before now : Option (List ℕ)) (piece : List ℕ) : Type 0 where
  pub front : List ℕ
  pub rest : List ℕ
  pub whole : piece ≡ front ++ rest
  pub holds : now ≡ with_piece front before
