-- How the nodes of a tree of keys lie.
use Rattle.std.specs.Prelude.{◌≡◌, ℕ, ◌+◌, ◌*◌, ◌<◌, ◌≤◌, min, List, length, slice_index}

-- each inner node has the lesser key of the two below it, from 1 on
abbrev pub IsLesser : List ℕ → ℕ → Type 0
IsLesser nodes node = slice_index nodes node ≡ min (slice_index nodes (2 * node)) (slice_index nodes (2 * node + 1))

pub record IsTree (nodes : List ℕ) (leaves : ℕ) : Type 0 where
  pub some : 0 < leaves
  pub fits : leaves ≤ 4294967296
  pub sized : length nodes ≡ 2 * leaves
  pub lesser : (node : ℕ) → 0 < node → node < leaves → IsLesser nodes node
