-- How the fields of a set of handlers keep it.
use Rattle.std.specs.Prelude.{◌≡◌, ℕ, ◌+◌, ◌<◌, ◌≤◌, IsTrue, IsFalse, List, [], length}
use Rattle.slab.specs.Slab.{slab_len}
use Rattle.aio_chain.specs.LinkList.{contains}
use Rattle.aio_model.specs.Handlers.Calls.{has_event}
use Rattle.aio_handlers.specs.declared.handlers.Handlers.TheInside.{Inside}
use Rattle.aio_handlers.specs.Slots.{slot_of, id_at, handlers_at}
use Rattle.aio_handlers.specs.Placing.{AllHaveSlots}
use Rattle.aio_handlers.specs.StandsFor.{HandlerList}

abbrev pub handlers_of : Inside → HandlerList
handlers_of h = record {
  room = h.room;
  count = h.added;
  live = handlers_at (slot_of h.places) h.live.items;
  walking = h.walking;
  waiting = handlers_at (slot_of h.places) h.waiting.items;
  marked = h.marked;
}

-- the word has the bits of these events
abbrev pub AreWatched : ℕ → List ℕ → Type 0
AreWatched watched events = (event : ℕ) → event < 64 → has_event watched event ≡ contains event events

pub record AreKept (h : Inside) : Type 0 where
  pub sized : length h.places.keys.items ≡ 64
  pub holds : 64 ≤ h.places.slab.capacity
  pub filled : slab_len h.places.slab ≡ length h.live.items
  pub have_slots : AllHaveSlots h.places h.live.items
  pub watched_are : AreWatched h.watched h.live.items
  pub live_room : h.live.room ≡ 64
  pub waiting_room : h.waiting.room ≡ 64
  pub used_is : h.used ≡ length h.live.items + h.marked
  pub used_fits : h.used ≤ h.room
  pub waiting_live : (event : ℕ) → IsTrue (contains event h.waiting.items) → IsTrue (contains event h.live.items)
  pub ids_below : (event : ℕ) → IsTrue (contains event h.live.items) → id_at (slot_of h.places) event < h.added
  pub ids_apart : (event other : ℕ) → IsTrue (contains event h.live.items) → IsTrue (contains other h.live.items)
      → id_at (slot_of h.places) event ≡ id_at (slot_of h.places) other → event ≡ other
  pub idle : IsFalse h.walking → (h.marked ≡ 0) × (h.waiting.items ≡ [])
