-- What is known of a set of event handlers.
use Rattle.std.specs.Prelude.{◌≡◌, List}
use Rattle.aio_model.specs.declared.handlers.calls.HandlerCall.{HandlerCall}
use Rattle.aio_model.specs.declared.handlers.states.HandlerState.{HandlerState}
use Rattle.aio_model.specs.Handlers.Calls.{added, live, is_walking, handlers_to_come, removed_in_walk}

-- these calls leave this of the handlers
pub record Tells (state : HandlerState) (calls : List HandlerCall) : Type 0 where
  pub counted : state.added ≡ added calls
  pub living : state.live.items ≡ live calls
  pub walking : state.is_walking ≡ is_walking calls
  pub waits : state.waiting.items ≡ handlers_to_come calls
  pub freed : state.marked ≡ removed_in_walk calls
