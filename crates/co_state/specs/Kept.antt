-- How the fields of a store keep it.
use Rattle.std.specs.Prelude.{◌≡◌, ℕ, ◌≤◌, List, [], ◌∷◌, length, Option, Some, None}
use Rattle.std.specs.Ordering.{nat_cmp}
use Rattle.std.specs.FinMap as map
use Rattle.slab.specs.Slab.{Slab, get, slab_len}
use Rattle.co_state.specs.Lookup.{Table, shape, ids_in, key_in}
use Rattle.co_state.specs.declared.store.Slot.{Slot}

module _ {C : Type 0} where
  abbrev pub coroutine_in : Option (Slot C) → Option C
  coroutine_in None = None
  coroutine_in (Some slot) = Some slot.co

  -- the coroutine under a key
  abbrev pub under : Slab (Slot C) → Option ℕ → Option C
  under slab None = None
  under slab (Some key) = coroutine_in (get slab key)

  -- the numbers that have a coroutine, each with it
  abbrev pub with_this : ℕ → Option C → List (ℕ × C) → List (ℕ × C)
  with_this id None rest = rest
  with_this id (Some co) rest = (id, co) ∷ rest

  abbrev pub collected : (ℕ → Option C) → List ℕ → List (ℕ × C)
  collected at [] = []
  collected at (id ∷ rest) = with_this id (at id) (collected at rest)

  -- each number's slot has that number
  abbrev pub AreNumbered : Slab (Slot C) → (ℕ → Option ℕ) → Type 0
  AreNumbered slab key_of = (id key : ℕ) → key_of id ≡ Some key → (co : C) × (get slab key ≡ Some (record { id = id; co = co }))

abbrev pub key_for : Table → ℕ → Option ℕ
key_for directory = key_in (shape directory.tree)

abbrev pub ids_of : Table → List ℕ
ids_of directory = ids_in (shape directory.tree)

-- the coroutines by number
abbrev pub held_in : {C : Type 0} → Table → Slab (Slot C) → map.FinMap nat_cmp C
held_in directory slab = map.from_entries (collected (λ id. under slab (key_for directory id)) (ids_of directory))

pub record AreKept {C : Type 0} (room : ℕ) (directory : Table) (slab : Slab (Slot C)) : Type 0 where
  pub numbered : AreNumbered slab (key_for directory)
  pub filled : slab_len slab ≡ length (ids_of directory)
  pub fits : length (ids_of directory) ≤ room
  pub slots : room ≤ slab.capacity
  pub places : room ≤ directory.room
