-- What a contract sees of a set of handlers, and the lists of calls for which it stands.
use Rattle.std.specs.Prelude.{◌≡◌, ℕ, Bool, List}
use Rattle.aio_model.specs.declared.handlers.calls.HandlerCall.{HandlerCall}
use Rattle.aio_model.specs.declared.handlers.calls.Handler.{Handler}
use Rattle.aio_model.specs.Handlers.Calls.{added, live, handlers_to_come, removed_in_walk, is_walking}

-- how many handlers there may be and how many were added, those that are live, in order of adding, and of the walk
-- those that it has yet to give, and how many were removed in it
pub record HandlerList : Type 0 where
  pub room : ℕ
  pub count : ℕ
  pub live : List Handler
  pub walking : Bool
  pub waiting : List Handler
  pub marked : ℕ

-- the handlers are as these calls left them, newest first
pub record StandsFor (handlers : HandlerList) (calls : List HandlerCall) : Type 0 where
  pub count_is : handlers.count ≡ added calls
  pub live_is : handlers.live ≡ live calls
  pub walking_is : handlers.walking ≡ is_walking calls
  pub waiting_is : handlers.waiting ≡ handlers_to_come calls
  pub marked_is : handlers.marked ≡ removed_in_walk calls
