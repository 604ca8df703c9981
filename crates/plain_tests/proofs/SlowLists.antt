-- A list of indices, looked at one index after the other: what is left to do with the rest of it.
use Rattle.std.proofs.Common.{ℕ, Bool, true, false, List, Option}
use Rattle.aio_chain.specs.LinkList.{first_of, next_after, put_before}

-- the index behind this one, where it was found just now, or is still to be found
abbrev pub found_in : Bool → ℕ → List ℕ → Option ℕ
found_in true i items = first_of items
found_in false i items = next_after i items

-- the rest, where the index was put among those before it, or with it before this one
abbrev pub put_unless : Bool → ℕ → ℕ → List ℕ → List ℕ
put_unless true at i items = items
put_unless false at i items = put_before at i items
