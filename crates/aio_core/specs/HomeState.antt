-- What the home knows of the indices that it has taken: they are the table's.
use Rattle.std.specs.Prelude.{ℕ, Bool, true, ◌&&◌, nat_lt, nat_le, Option, None, Some, List, [], ◌∷◌}
use Rattle.aio_model.specs.Loop.History.{Sizes}
use Rattle.aio_core.specs.Words.{index_count}

-- each word leads to an index of the table
abbrev pub are_within : Sizes → List ℕ → Bool
are_within sizes [] = true
are_within sizes (word ∷ words) =
    nat_lt 0 word && (nat_le word (index_count sizes) && are_within sizes words)

-- only a handle is at hand between two calls
abbrev pub is_handle : Sizes → Option ℕ → Bool
is_handle sizes None = true
is_handle sizes (Some i) = nat_lt i sizes.handles
