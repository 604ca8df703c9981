-- What a contract sees of a list of indices, and the steps on it.
use Rattle.std.specs.Prelude.{ℕ, ◌<◌, nat_eq, ◌==◌, Bool, IsTrue, IsFalse, if◌then◌else◌, List, [], ◌∷◌, Option, Some, None}
use Rattle.std.specs.List.{list_any}

-- the indices in order, each below the room
pub record LinkList : Type 0 where
  pub room : ℕ
  pub items : List ℕ

-- the index is in the list
abbrev pub contains : ℕ → List ℕ → Bool
contains i items = list_any (nat_eq i) items

abbrev pub first_of : List ℕ → Option ℕ
first_of [] = None
first_of (x ∷ rest) = Some x

-- the index behind this one, if there is one
abbrev pub next_after : ℕ → List ℕ → Option ℕ
next_after i [] = None
next_after i (x ∷ rest) = if i == x then first_of rest else next_after i rest

-- the list with an index more, right before this one
abbrev pub put_before : ℕ → ℕ → List ℕ → List ℕ
put_before at i [] = []
put_before at i (x ∷ rest) = if at == x then i ∷ x ∷ rest else x ∷ put_before at i rest

abbrev pub without : ℕ → List ℕ → List ℕ
without i [] = []
without i (x ∷ rest) = if i == x then without i rest else x ∷ without i rest

-- no index stands in the list twice
abbrev pub IsEachOnce : List ℕ → Type 0
IsEachOnce [] = Unit {0}
IsEachOnce (x ∷ rest) = IsFalse (contains x rest) × IsEachOnce rest

-- each index stands in the list once, and is below the room
pub record IsLinked (list : LinkList) : Type 0 where
  pub each_once : IsEachOnce list.items
  pub below : (i : ℕ) → IsTrue (contains i list.items) → i < list.room

-- the list from this index on
abbrev pub rest_at : ℕ → List ℕ → List ℕ
rest_at i [] = []
rest_at i (x ∷ rest) = if i == x then x ∷ rest else rest_at i rest

-- What a walk along the list has yet to see, where it stands at this index, or has come to the end.
abbrev pub rest_from : Option ℕ → List ℕ → List ℕ
rest_from None items = []
rest_from (Some i) items = rest_at i items
