-- What calls of a set of event handlers leave. The calls stand newest first.
use Rattle.std.specs.Prelude.{ℕ, ◌+◌, ◌/◌, ◌%◌, ◌^◌, ◌==◌, Bool, true, false, not, ◌&&◌, if◌then◌else◌, List, [], ◌∷◌, ◌++◌, filter, Option, Some, None, is_some}
use Rattle.aio_model.specs.declared.handlers.calls.HandlerCall.{HandlerCall}
use Rattle.aio_model.specs.declared.handlers.calls.HandlerCall.TheVariants.{Add, Remove, WalkBegin, Give, WalkEnd}
use Rattle.aio_model.specs.declared.handlers.calls.Handler.{Handler}

-- the handler with this number
abbrev pub named : ℕ → List Handler → Option Handler
named id [] = None
named id (handler ∷ handlers) = if handler.id == id then Some handler else named id handlers

-- all but the handler with this number
abbrev pub others : ℕ → List Handler → List Handler
others id handlers = filter (λ handler. not (handler.id == id)) handlers

-- the first handler of this event
abbrev pub on_event : ℕ → List Handler → Option Handler
on_event event [] = None
on_event event (handler ∷ handlers) = if handler.event == event then Some handler else on_event event handlers

-- the bit of this event is set
abbrev pub has_event : ℕ → ℕ → Bool
has_event events event = (events / 2 ^ event) % 2 == 1

-- how many handlers were added; their numbers lie below it
abbrev pub added : List HandlerCall → ℕ
added [] = 0
added (Add id event tag ∷ calls) = added calls + 1
added (call ∷ calls) = added calls

-- the handlers that were added and not removed since, in order of adding
abbrev pub live : List HandlerCall → List Handler
live [] = []
live (Add id event tag ∷ calls) = live calls ++ record { id = id; event = event; tag = tag } ∷ []
live (Remove id ∷ calls) = others id (live calls)
live (call ∷ calls) = live calls

-- a walk was begun and not ended since
abbrev pub is_walking : List HandlerCall → Bool
is_walking [] = false
is_walking (WalkBegin found ∷ calls) = true
is_walking (WalkEnd ∷ calls) = false
is_walking (call ∷ calls) = is_walking calls

-- The handlers that the walk has yet to give: those of its events that were live at its begin, in order of adding,
-- but for those that were given or removed since.
abbrev pub handlers_to_come : List HandlerCall → List Handler
handlers_to_come [] = []
handlers_to_come (WalkBegin found ∷ calls) = filter (λ handler. has_event found handler.event) (live calls)
handlers_to_come (WalkEnd ∷ calls) = []
handlers_to_come (Give id ∷ calls) = others id (handlers_to_come calls)
handlers_to_come (Remove id ∷ calls) = others id (handlers_to_come calls)
handlers_to_come (Add id event tag ∷ calls) = handlers_to_come calls

-- how many live handlers were removed since the walk was begun
abbrev pub removed_in_walk : List HandlerCall → ℕ
removed_in_walk [] = 0
removed_in_walk (WalkBegin found ∷ calls) = 0
removed_in_walk (WalkEnd ∷ calls) = 0
removed_in_walk (Remove id ∷ calls) = if is_walking calls && is_some (named id (live calls)) then removed_in_walk calls + 1 else removed_in_walk calls
removed_in_walk (call ∷ calls) = removed_in_walk calls
