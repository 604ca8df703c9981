-- How nodes keep a list: each has the index before it and the index behind it, in a circle that one more node closes.
use Rattle.std.specs.Prelude.{◌≡◌, ℕ, zero, suc, ◌+◌, ◌<◌, ◌==◌, IsTrue, IsFalse, if◌then◌else◌, List, [], ◌∷◌, ◌++◌, length, slice_index_or}
use Rattle.aio_chain.specs.declared.links.Node.{Node}
use Rattle.aio_chain.specs.LinkList.{contains, IsEachOnce}

-- what is read past the end
abbrev pub no_node : Node
no_node = record { prev = 0; next = 0 }

abbrev pub next_of_node : List Node → ℕ → ℕ
next_of_node nodes i = (slice_index_or nodes i no_node).next

abbrev pub prev_in : List Node → ℕ → ℕ
prev_in nodes i = (slice_index_or nodes i no_node).prev

-- a node's two neighbours
pub record PointsAt (nodes : List Node) (i prev next : ℕ) : Type 0 where
  pub back : prev_in nodes i ≡ prev
  pub on : next_of_node nodes i ≡ next

module _ (next prev : ℕ → ℕ) where
  -- from an index on, each of these is the next of the one before it
  abbrev pub IsPath : ℕ → List ℕ → Type 0
  IsPath a [] = Unit {0}
  IsPath a (x ∷ rest) = (next a ≡ x) × (prev x ≡ a) × IsPath x rest

  -- the indices from one on to the end, so many at most
  abbrev pub walk : ℕ → ℕ → ℕ → List ℕ
  walk end zero i = []
  walk end (suc steps) i = if i == end then [] else i ∷ walk end steps (next i)

  -- the indices form a circle with the end, and all others stand alone
  pub record IsCircle (end : ℕ) (items : List ℕ) : Type 0 where
    pub path : IsPath end (items ++ end ∷ [])
    pub each_once : IsEachOnce items
    pub below : (i : ℕ) → IsTrue (contains i items) → i < end
    pub alone : (i : ℕ) → i < end → IsFalse (contains i items) → next i ≡ i

-- the indices in order, from the end on round to it
abbrev pub items_in : List Node → ℕ → List ℕ
items_in nodes end = walk (next_of_node nodes) (prev_in nodes) end end (next_of_node nodes end)

-- these nodes keep a list of indices below the end
pub record ArePlaced (nodes : List Node) (end : ℕ) : Type 0 where
  pub sized : length nodes ≡ end + 1
  pub circle : IsCircle (next_of_node nodes) (prev_in nodes) end (items_in nodes end)

module _ (next prev next' prev' : ℕ → ℕ) where
  -- an index now stands between the one at this place and the one before it
  pub record PutsBetween (at i : ℕ) : Type 0 where
    pub on : (k : ℕ) → next' k ≡ (if k == i then at else if k == prev at then i else next k)
    pub back : (k : ℕ) → prev' k ≡ (if k == at then i else if k == i then prev at else prev k)

  -- an index now stands alone, and its neighbours are joined
  pub record TakesOut (i : ℕ) : Type 0 where
    pub on : (k : ℕ) → next' k ≡ (if k == i then i else if k == prev i then next i else next k)
    pub back : (k : ℕ) → prev' k ≡ (if k == i then i else if k == next i then prev i else prev k)
