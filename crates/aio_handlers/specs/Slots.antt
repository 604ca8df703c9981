-- The handlers of the events that a list names.
use Rattle.std.specs.Prelude.{ℕ, ◌==◌, if◌then◌else◌, List, [], ◌∷◌, map, Option, Some, None, slice_index}
use Rattle.slab.specs.Slab.{get}
use Rattle.aio_model.specs.declared.handlers.calls.Handler.{Handler}
use Rattle.aio_handlers.specs.declared.places.Slot.{Slot}
use Rattle.aio_handlers.specs.declared.places.Places.{Places}

-- what stands under a key that has nothing
abbrev pub no_slot : Slot
no_slot = record { id = 0; tag = 0 }

abbrev pub or_no_slot : Option Slot → Slot
or_no_slot None = no_slot
or_no_slot (Some slot) = slot

abbrev pub key_of : Places → ℕ → ℕ
key_of places event = slice_index places.keys.items event

-- what lies under an event's key
abbrev pub slot_of : Places → ℕ → Slot
slot_of places event = or_no_slot (get places.slab (key_of places event))

abbrev pub id_at : (ℕ → Slot) → ℕ → ℕ
id_at slots event = (slots event).id

abbrev pub tag_at : (ℕ → Slot) → ℕ → ℕ
tag_at slots event = (slots event).tag

abbrev pub handler_at : (ℕ → Slot) → ℕ → Handler
handler_at slots event = record { id = id_at slots event; event = event; tag = tag_at slots event }

-- the handlers of these events
abbrev pub handlers_at : (ℕ → Slot) → List ℕ → List Handler
handlers_at slots events = map (handler_at slots) events

-- the first of these events whose handler has this number
abbrev pub event_named : (ℕ → Slot) → ℕ → List ℕ → Option ℕ
event_named slots id [] = None
event_named slots id (event ∷ rest) = if id_at slots event == id then Some event else event_named slots id rest
