-- What the calls of a set of handlers answer.
use Rattle.std.specs.Prelude.{ℕ, ◌+◌, ◌==◌, nat_le, Bool, if◌then◌else◌, List, [], ◌∷◌, length, Option, Some, None, Result, Ok, Err}
use Rattle.aio_model.specs.declared.handlers.calls.Handler.{Handler}
use Rattle.aio_model.specs.Handlers.Calls.{named, on_event}
use Rattle.aio_handlers.specs.declared.answers.HandlerId.{HandlerId}
use Rattle.aio_handlers.specs.declared.answers.AddRefusal.{AddRefusal}
use Rattle.aio_handlers.specs.declared.answers.AddRefusal.TheVariants.{Taken, Full, Worn}
use Rattle.aio_handlers.specs.declared.answers.Removed.{Removed}
use Rattle.aio_handlers.specs.declared.answers.Removed.TheVariants.{Freed, Marked, Gone}
use Rattle.aio_handlers.specs.declared.answers.Ready.{Ready}
use Rattle.aio_handlers.specs.StandsFor.{HandlerList}

-- an add where the event has no handler
abbrev pub fresh_answer : HandlerList → Result HandlerId AddRefusal
fresh_answer handlers =
    if nat_le handlers.room (length handlers.live + handlers.marked)
    then Err Full
    else if handlers.count == 4294967295 then Err Worn else Ok (record { number = handlers.count })

abbrev pub taken_or : Option Handler → Result HandlerId AddRefusal → Result HandlerId AddRefusal
taken_or None other = other
taken_or (Some handler) other = Err (Taken (record { number = handler.id }))

abbrev pub add_answer : HandlerList → ℕ → Result HandlerId AddRefusal
add_answer handlers event = taken_or (on_event event handlers.live) (fresh_answer handlers)

abbrev pub removed_as : Bool → Option Handler → Removed
removed_as walking None = Gone
removed_as walking (Some handler) = if walking then Marked handler.tag else Freed handler.tag

abbrev pub remove_answer : HandlerList → ℕ → Removed
remove_answer handlers id = removed_as handlers.walking (named id handlers.live)

abbrev pub ready_as : Handler → Ready
ready_as handler = record { id = record { number = handler.id }; event = handler.event; tag = handler.tag }

abbrev pub first_ready : List Handler → Option Ready
first_ready [] = None
first_ready (handler ∷ rest) = Some (ready_as handler)
