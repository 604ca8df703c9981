-- What the calls on the places of handlers do.
use Rattle.std.specs.Prelude.{◌≡◌, ◌≢◌, ℕ, ◌<◌, IsTrue, List, length}
use Rattle.slab.specs.Slab.{ContainsKey}
use Rattle.aio_chain.specs.LinkList.{contains}
use Rattle.aio_handlers.specs.declared.places.Slot.{Slot}
use Rattle.aio_handlers.specs.declared.places.Places.{Places}
use Rattle.aio_handlers.specs.Slots.{key_of, slot_of}

-- a handler lies under the event's key
pub record HasSlot (places : Places) (event : ℕ) : Type 0 where
  pub in_keys : event < length places.keys.items
  pub has_value : ContainsKey places.slab (key_of places event)

abbrev pub AllHaveSlots : Places → List ℕ → Type 0
AllHaveSlots places events = (event : ℕ) → IsTrue (contains event events) → HasSlot places event

-- the event's handler is this, and those of others are as they were
pub record Puts (old new : Places) (event : ℕ) (slot : Slot) : Type 0 where
  pub here : slot_of new event ≡ slot
  pub has : HasSlot new event
  pub others : (other : ℕ) → other ≢ event → HasSlot old other → slot_of new other ≡ slot_of old other
  pub have : (other : ℕ) → other ≢ event → HasSlot old other → HasSlot new other

-- what lies under other keys than the event's is as it was
pub record TakesEvent (old new : Places) (event : ℕ) : Type 0 where
  pub others : (other : ℕ) → key_of old other ≢ key_of old event → slot_of new other ≡ slot_of old other
  pub have : (other : ℕ) → key_of old other ≢ key_of old event → HasSlot old other → HasSlot new other
