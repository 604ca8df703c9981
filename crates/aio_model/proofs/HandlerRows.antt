-- The definitions of handler calls at small lists of calls, computed: what stands here was worked out by hand.
use Rattle.std.proofs.Common.{◌≡◌, ℕ, List, [], ◌∷◌, Some, None, refl}
use Rattle.aio_model.specs.declared.handlers.calls.HandlerCall.{HandlerCall}
use Rattle.aio_model.specs.declared.handlers.calls.HandlerCall.TheVariants.{Add, Remove, WalkBegin, Give, WalkEnd}
use Rattle.aio_model.specs.declared.handlers.calls.Handler.{Handler}
use Rattle.aio_model.specs.Handlers.Calls.{named, on_event, live, handlers_to_come, removed_in_walk}

abbrev handler : ℕ → ℕ → ℕ → Handler
handler id event tag = record { id = id; event = event; tag = tag }

-- two handlers; a walk over their events gives the first; both are removed in the walk
abbrev two_added : List HandlerCall
two_added = Add 1 1 11 ∷ Add 0 0 10 ∷ []

abbrev both_removed : List HandlerCall
both_removed = Remove 1 ∷ Remove 0 ∷ Give 0 ∷ WalkBegin 3 ∷ two_added

two_live : live two_added ≡ handler 0 0 10 ∷ handler 1 1 11 ∷ []
two_live = refl

taken_by_first : on_event 0 (live two_added) ≡ Some (handler 0 0 10)
taken_by_first = refl

two_wait : handlers_to_come (WalkBegin 3 ∷ two_added) ≡ handler 0 0 10 ∷ handler 1 1 11 ∷ []
two_wait = refl

one_waits : handlers_to_come (Give 0 ∷ WalkBegin 3 ∷ two_added) ≡ handler 1 1 11 ∷ []
one_waits = refl

none_waits : handlers_to_come both_removed ≡ []
none_waits = refl

two_marked : removed_in_walk both_removed ≡ 2
two_marked = refl

gone : named 0 (live (WalkEnd ∷ both_removed)) ≡ None
gone = refl

-- three handlers; the second is removed in a walk and another is added on its event, which the walk doesn't give
abbrev replaced : List HandlerCall
replaced = Add 3 1 21 ∷ Remove 1 ∷ Give 0 ∷ WalkBegin 7 ∷ Add 2 2 12 ∷ Add 1 1 11 ∷ Add 0 0 10 ∷ []

third_waits : handlers_to_come replaced ≡ handler 2 2 12 ∷ []
third_waits = refl

replaced_live : live replaced ≡ handler 0 0 10 ∷ handler 2 2 12 ∷ handler 3 1 21 ∷ []
replaced_live = refl

one_marked : removed_in_walk (Give 2 ∷ replaced) ≡ 1
one_marked = refl

-- a walk over one event gives its handler alone
one_event : handlers_to_come (WalkBegin 2 ∷ two_added) ≡ handler 1 1 11 ∷ []
one_event = refl
